-- Point 11: the journals of the columns of a bank, after every list of steps from fresh, meet none of 19 to 21. Assumes nothing.
use Prim.Native.Nat.{ℕ, ◌≤◌}
use native.Mathlib.Omega.{arith}
use mathlib.Core.Path.{◌≡◌, refl, sym, ap₂, subst, ◌∙◌}
use mathlib.Core.Bool.{false, true≢false}
use mathlib.Core.List.{List, [], ◌∷◌, Memᴰ}
use Rattle.column.specs.Sets.{has}
use Rattle.column.specs.laws.TreeLaws.{check_exact}
use Rattle.column.specs.declared.tree.Tree.{Tree}
use Rattle.column.specs.declared.packet.Packet.{Packet}
use Rattle.bank.specs.Banks.{State}
use Rattle.bank.specs.Steps.{Result, accepted, refused, halt_refusal, halt}
use Rattle.bank.specs.Performs.{perform}
use Rattle.bank.specs.StepKinds.{is_back}
use Rattle.bank.specs.Strips.{halt_one, and_then, singles}
use Rattle.bank.specs.laws.strips.StripLaws.{singly, listed, distinct_listed, members_listed}
use Rattle.bank.proofs.laws.RestSteps.{unchanged}
use Rattle.bank.specs.declared.bank.Step.{Step}
use Rattle.bank.specs.declared.bank.Step.TheVariants.{Order, Send, Take, Ack, All, Note, Halt, Back, Write}
use Rattle.agreement.specs.History.{World, orders_after, told, run}
use Rattle.agreement.specs.Agreement.{begin}
use Rattle.agreement.specs.Journals.{Journals, all_got, all_sent, journals_after, recorded, journals, Stays, NoneBack, Proper, Consistent, JournalsAgree, TextsAgree}
use Rattle.journals.specs.declared.line.Line.{Line}
use Rattle.journals.specs.laws.JournalLaws.{AllGood}
use Rattle.journals.specs.laws.ComparingLaws.{texts_compared}
use Rattle.agreement.proofs.relation.Move.{Event, halts}
use Rattle.agreement.proofs.relation.View.{model_of, OneMove, event}
use Rattle.agreement.proofs.refinement.RefineCommon.{Refined, accepted_goes}
use Rattle.agreement.proofs.refinement.RefineTake.{refines_halt}
use Rattle.agreement.proofs.refinement.RefineBack.{refines}
use Rattle.agreement.proofs.relation.Model as model
use Rattle.agreement.proofs.refinement.Told.{same_model, written_is}
use Rattle.agreement.proofs.refinement.Reached.{Reached, start, fresh_model, moved, carried, next}
use Rattle.agreement.proofs.Companions.{run_tree}
use Rattle.agreement.proofs.bounds.SpreadKept.{Onward}
use Rattle.agreement.proofs.journals.Dues.{Recorded, got_by, put_by, gots_by, puts_by}
use Rattle.agreement.proofs.journals.JournalsKept.{recorded_kept, recorded_fresh, consistent}
use Rattle.agreement.proofs.journals.StepPackets.{sent_told, got_told}

abbrev RecordedIn : World → Journals → Type 0
RecordedIn w j = Recorded w.state.bank.tree (model_of w.state w.orders) j

-- ---- a move

onward : (s : State) (x : Step) (o : OneMove x) → is_back x ≡ false → Onward (event s x o)
onward s (Order d) o b = tt
onward s (Send i) o b = tt
onward s (Take place) o b = tt
onward s (Ack i) o b = tt
onward s (All i) o b = tt
onward s (Note i j) o b = tt
onward s (Halt m) o b = absurd o
onward s (Back j) o b = absurd (true≢false b)
onward s (Write i offset value) o b = absurd o

module _ (w : World) (j : Journals) (r : Reached w) (g : RecordedIn w j) where
  abbrev s : State
  s = w.state

  abbrev t : Tree
  t = s.bank.tree

  kept_by : {orders : List ℕ} (e : Event) (s' : State) → Refined s w.orders orders e s' → Onward e
      → Recorded s'.bank.tree (model_of s' orders) (all_sent (all_got j (got_by (model_of s w.orders) e)) (put_by (model_of s w.orders) e))
  kept_by {orders} e s' f o =
      subst (λ (u : Tree). Recorded u (model_of s' orders) (all_sent (all_got j (got_by (model_of s w.orders) e)) (put_by (model_of s w.orders) e)))
      (sym f.same_tree)
      (subst (Recorded t (model_of s' orders))
      (ap₂ (λ (a b : List Packet). all_sent (all_got j a) b) (gots_by r.invariant r.validity f.move) (puts_by r.invariant r.validity f.move))
      (recorded_kept t ((check_exact t).0 r.tree) r.invariant r.formed.numbers_fit g f.move o))

  one_move : (x : Step) (o : OneMove x) (s' : State) → perform s x ≡ accepted s' → is_back x ≡ false
      → Recorded s'.bank.tree (model_of s' (orders_after w.orders x)) (journals_after s x j)
  one_move x o s' e b =
      subst (Recorded s'.bank.tree (model_of s' (orders_after w.orders x)))
      (ap₂ (λ (a b : List Packet). all_sent (all_got j a) b) (sym (got_told s w.orders x o s' e)) (sym (sent_told s w.orders x o s' e)))
      (kept_by (event s x o) s' (refines s r.formed w.orders x o s' e) (onward s x o b))

-- ---- a halt: one move for each member, and no line

halted_singly : (l : List ℕ) (w : World) (s' : State) (j : Journals) → Reached w → RecordedIn w j → singles w.state l ≡ accepted s' → RecordedIn (moved w s') j
unfolding singles all_got all_sent
halted_singly [] w s' j r g e = let same : w.state ≡ s' = cc in subst (λ (s : State). RecordedIn (moved w s) j) same g
halted_singly (i ∷ l) w s' j r g e = go (λ v q k h. halted_singly l v s' j q k h) (halt_one w.state i) refl e
  where
    go : ((v : World) → Reached v → RecordedIn v j → singles v.state l ≡ accepted s' → RecordedIn (moved v s') j)
        → (o : Result State) → halt_one w.state i ≡ o → and_then o (λ (t : State). singles t l) ≡ accepted s' → RecordedIn (moved w s') j
    go rest (accepted s1) z h =
        let f = refines_halt w.state r.formed w.orders i s1 z in
        rest (moved w s1) (carried w (moved w s1) (halts i) r f (λ i. refl) (λ q. refl)) (kept_by w j r g (halts i) s1 f tt) h
    go rest (refused n s1) z h = let z : ◌≡◌ {A = ℕ} 0 1 = cc in absurd (omega arith)

halted_together : (w : World) (m : ℕ) (s' : State) (j : Journals) → Reached w → RecordedIn w j → halt w.state m ≡ accepted s' → RecordedIn (moved w s') j
halted_together w m s' j r g e =
    let s = w.state in
    let z = (accepted_goes s s' (halt_refusal s m) _ e).0 in
    let l = listed (has m) s.bank.tree.columns in
    halted_singly l w s' j r g (singly s r.formed.whole m z l (distinct_listed (has m) s.bank.tree.columns) (members_listed s m z) ∙ e)

-- ---- a step

module _ (w : World) (j : Journals) (r : Reached w) (g : RecordedIn w j) where
  step_recorded : (x : Step) (s' : State) → perform w.state x ≡ accepted s' → is_back x ≡ false
      → Recorded s'.bank.tree (model_of s' (orders_after w.orders x)) (journals_after w.state x j)
  unfolding perform all_got all_sent
  step_recorded (Order d) s' e b = one_move w j r g (Order d) tt s' e b
  step_recorded (Send i) s' e b = one_move w j r g (Send i) tt s' e b
  step_recorded (Take place) s' e b = one_move w j r g (Take place) tt s' e b
  step_recorded (Ack i) s' e b = one_move w j r g (Ack i) tt s' e b
  step_recorded (All i) s' e b = one_move w j r g (All i) tt s' e b
  step_recorded (Note i k) s' e b = one_move w j r g (Note i k) tt s' e b
  step_recorded (Halt m) s' e b = halted_together w m s' j r g e
  step_recorded (Back k) s' e b = absurd (true≢false b)
  step_recorded (Write i offset value) s' e b = subst (λ (u : State). RecordedIn (moved w u) j) (written_is w.state i offset value s' e)
      (subst (λ (m : model.State). Recorded w.state.bank.tree m j) (sym (same_model w.state i offset value w.orders)) g)

  recorded_next : (x : Step) → Stays x (perform w.state x) → RecordedIn (told w x (perform w.state x)) (recorded w.state x (perform w.state x) j)
  unfolding told recorded
  recorded_next x b = go (perform w.state x) refl b
    where
      go : (o : Result State) → perform w.state x ≡ o → Stays x o → RecordedIn (told w x o) (recorded w.state x o j)
      go (accepted s') e b = step_recorded x s' e b
      go (refused n s') e b = subst (λ (u : State). RecordedIn (told w x (refused n u)) j) (sym (unchanged w.state x n s' e)) g

-- ---- every list

recorded_all : (w : World) (xs : List Step) (j : Journals) → Reached w → RecordedIn w j → NoneBack w xs → RecordedIn (run w xs) (journals w xs j)
unfolding run journals NoneBack
recorded_all w [] j r g b = g
recorded_all w (x ∷ xs) j r g b =
    recorded_all (told w x (perform w.state x)) xs (recorded w.state x (perform w.state x) j) (next w x r) (recorded_next w j r g x b.0) b.1

-- "Journals within the limit, of two columns of one such bank stepped from fresh and pulled at one moment, meet none of 19 to 21."
pub journals_agree : JournalsAgree
journals_agree t ok heads doors h d xs b =
    let w = begin t heads doors in
    subst (λ (u : Tree). Consistent u.columns (journals w xs (λ i. []))) (run_tree w xs)
    (consistent (recorded_all w xs (λ i. []) (start t ok heads doors h d)
    (recorded_fresh t ((check_exact t).0 ok).root_below (fresh_model t ok heads doors)) b))

-- ---- their texts

all_good : (columns p : ℕ) → columns ≤ 16 → (l : List Line) → ((x : Line) → Memᴰ x l → Proper columns p x) → AllGood p l
unfolding AllGood
all_good columns p h [] f = tt
all_good columns p h (x ∷ l) f =
    let z = f x (Memᴰ.head refl) in (
      record {
        other_below = omega (arith, z.other_below, h);
        other_apart = z.other_apart;
        number_below = omega (arith, z.number_fits);
      },
      all_good columns p h l (λ y m. f y (Memᴰ.tail m)),
    )

pub texts_agree : TextsAgree
texts_agree t ok heads doors h d xs b p q hp hq ne lp lq old =
    let c = journals_agree t ok heads doors h d xs b in
    let j = journals (begin t heads doors) xs (λ i. []) in
    let few : t.columns ≤ 16 = ((check_exact t).0 ok).sixteen in
    texts_compared p q (j p) (j q)
    (record {
      apart = ne;
      mine_once = c.once p;
      theirs_once = c.once q;
      mine_heard = λ kind number m. c.heard p q kind number m;
      theirs_heard = λ kind number m. c.heard q p kind number m;
    })
    (omega (arith, hp, few)) (omega (arith, hq, few))
    (all_good t.columns p few (j p) (c.proper p)) (all_good t.columns q few (j q) (c.proper q))
    lp lq old
