-- A bank in which nothing is under way, nobody serves or owes anybody, and all that run have one number: the fresh bank, every bank at rest,
-- and every bank after a return (document 02, Point 7). Assumes nothing.
use Prim.Native.Nat.{ℕ, ◌<◌, ◌≤◌}
use native.Mathlib.Omega.{arith}
use mathlib.Core.Path.{◌≡◌, refl, sym, ap, subst, ◌∙◌}
use mathlib.Core.Logic.{⊎_elim, ◌⊎◌, inl, inr, ◌≢◌}
use mathlib.Core.Bool.{Bool, true, false, ◌&&◌, not, cond, true≢false}
use mathlib.Core.List.{[]}
use Rattle.column.specs.laws.Cases.{truth, compare_cases, equal_cases}
use Rattle.column.specs.Trees.{IsTree}
use Rattle.column.specs.Columns.{fresh, watched}
use Rattle.column.specs.Returns.{rejoined, struck}
use Rattle.column.specs.Sets.{without}
use Rattle.column.specs.declared.tree.Tree.{Tree}
use Rattle.column.specs.declared.state.Column.{Column}
use Rattle.agreement.proofs.relation.Model.{In, Empty, State, Runs}
use Rattle.agreement.proofs.relation.Move.{Idle, Rest, Returns, Free, Remaining, came_back}
use Rattle.agreement.proofs.relation.Members.{absent, in_none, without_in, without_cases}
use Rattle.agreement.proofs.invariant.Invariant.{number, Unserved, Invariant, Fresh, fresh_invariant}
use Rattle.agreement.proofs.invariant.Rest.{none_awaited, none_owed, rest_agrees}
use Rattle.agreement.proofs.bounds.TokenLaws.{one, many, between, owes, tokens}

pub below_cases : (i n : ℕ) → (i < n) ⊎ (n ≤ i)
below_cases i n = ⊎_elim (λ l. inl l) (λ h. inr (⊎_elim (λ e. omega arith) (λ l. omega arith) h)) (compare_cases i n)

-- what holds of column j after the return, of each other column that strikes it, and of each unused one holds of each column after it
pub returned_each : {t : Tree} {s s' : State} {j : ℕ} {c : Column} → Returns t s s' j c →
    (P : ℕ → Column → Type 0) → P j c → ((i : ℕ) → i ≢ j → i < t.columns → P i (struck (s.columns i) j)) →
    ((i : ℕ) → i ≢ j → t.columns ≤ i → P i (s.columns i)) → (i : ℕ) → P i (s'.columns i)
returned_each {t} {s' = s'} {j = j} b P h f g i = ⊎_elim
    (λ e. subst (λ (x : ℕ). P x (s'.columns x)) (sym e) (subst (P j) (sym b.mine) h))
    (λ n. ⊎_elim (λ l. subst (P i) (sym (b.strikes i n l)) (f i n l)) (λ l. subst (P i) (sym (b.unused i n l)) (g i n l)) (below_cases i t.columns))
    (equal_cases i j)

-- of the columns that run after it
pub each_running : {t : Tree} {s s' : State} {j : ℕ} {c : Column} → Returns t s s' j c → ((i : ℕ) → Runs s i → i < t.columns) →
    (P : ℕ → Column → Type 0) → P j c → ((i : ℕ) → i ≢ j → Runs s i → P i (struck (s.columns i) j)) →
    (i : ℕ) → Runs s' i → P i (s'.columns i)
each_running b inside P h f = returned_each b (λ (i : ℕ) (x : Column). x.running ≡ true → P i x) (λ _. h) (λ i n _ r. f i n r)
    (λ i n l r. absurd (omega (arith, l, inside i r)))

module _ (t : Tree) {s s' : State} (j l noted : ℕ) (inside : (i : ℕ) → Runs s i → i < t.columns) (rest : Rest t s)
    (rl : Runs s l) (k : Remaining t s j noted) (b : Returns t s s' j (came_back t s j l noted)) where
  abbrev c : Column
  c = came_back t s j l noted

  -- a column with the own goal: the root runs, and so does l
  none_takes_over : c.whole ≡ false → In noted (watched t c) → ⊥
  none_takes_over o m = ⊎_elim
      (λ w. (k.remains l (subst watching w m)).1 rl)
      (λ w. (k.remains t.root (subst watching w m)).1 root_runs) (truth t.watch)
    where
      watching : Bool → Type 0
      watching w = In noted (cond w l t.root)

      root_runs : Runs s t.root
      root_runs = ⊎_elim (λ r. r) (λ r. absurd (true≢false (sym (ap not r) ∙ o))) (truth (s.columns t.root).running)

  pub back_rests : Rest t s'
  back_rests = record {
    no_packet = b.packets ∙ rest.no_packet;
    no_send = each_running b inside (λ (i : ℕ) (x : Column). Empty x.send) (λ q m. in_none m) (λ i n h. rest.no_send i h);
    no_ack = λ i q h. each_running b inside (λ (i : ℕ) (x : Column). (q : ℕ) → In x.owed q → ¬ Free t i x)
        (λ q m. absurd (in_none m)) (λ i n h q m f. rest.no_ack i q h m f) i h q;
    no_all = each_running b inside
        (λ (i : ℕ) (x : Column). i ≢ t.root → In x.noted (watched t x) → x.whole ≡ false → ¬ Idle x)
        (λ _ m o _. none_takes_over o m)
        (λ i n h nr m o idle. rest.no_all i h nr (without_in (s.columns i).noted j m) o idle);
    no_note = λ i q h. each_running b inside
        (λ (i : ℕ) (x : Column). (q : ℕ) → q < t.columns → ¬ Runs s' q → q ≢ i → ¬ (¬ In x.noted q))
        (λ q hq nq ni f. f (k.all_remaining q hq (halted_before q hq nq ni) ni))
        (λ i n h q hq nq ni f. other i q h hq nq ni f) i h q;
  }
    where
      halted_before : (q : ℕ) → q < t.columns → ¬ Runs s' q → q ≢ j → ¬ Runs s q
      halted_before q hq n nq h = n (subst (λ (x : Column). x.running ≡ true) (sym (b.strikes q nq hq)) h)

      other : (i q : ℕ) → Runs s i → q < t.columns → ¬ Runs s' q → q ≢ i → ¬ (¬ In (without (s.columns i).noted j) q)
      other i q h hq nq ni f = ⊎_elim
          (λ e. nq (subst (λ (x : ℕ). Runs s' x) (sym e) (subst (λ (x : Column). x.running ≡ true) (sym b.mine) refl)))
          (λ n. rest.no_note i q h hq (halted_before q hq nq n) ni (λ m. ⊎_elim (λ z. f z) (λ z. n z) (without_cases (s.columns i).noted j m)))
          (equal_cases q j)

-- nothing is left to do but to note and to take over
pub record Still (s : State) : Type 0 where
  pub no_packet : s.network ≡ []
  pub idle : (i : ℕ) → Runs s i → Idle (s.columns i)
  pub owes_nobody : (i : ℕ) → Runs s i → Empty (s.columns i).owed
  pub agree : (i j : ℕ) → Runs s i → Runs s j → number s i ≡ number s j

module _ (t : Tree) {s : State} (f : Still s) where
  pub no_tokens : (g : ℕ → Bool) (p q : ℕ) → tokens g s p q ≡ 0
  unfolding many
  no_tokens g p q = omega (arith, ap (many (between g p q)) f.no_packet, ⊎_elim runs stopped (truth (s.columns q).running))
    where
      nothing : (a b : Bool) → one (a && (false && b)) ≡ 0
      nothing true b = refl
      nothing false b = refl

      runs : Runs s q → one (owes g p (s.columns q)) ≡ 0
      runs r =
          ap (λ (b : Bool). one ((s.columns q).running && (b && g (s.columns q).number))) (absent (s.columns q).owed p (f.owes_nobody q r p))
          ∙ nothing (s.columns q).running (g (s.columns q).number)

      stopped : (s.columns q).running ≡ false → one (owes g p (s.columns q)) ≡ 0
      stopped r = rw r refl

  pub nobody : (i : ℕ) → Runs s i → {q : ℕ} → Unserved (s.columns i) q → ⊥
  nobody i h {q} u = ⊎_elim ((f.idle i h).0 q) ((f.idle i h).1 q) u

  pub none_held : (g : ℕ → Bool) (p q : ℕ) → 0 < tokens g s p q → ⊥
  none_held g p q h = omega (arith, h, no_tokens g p q)

-- ---- the fresh bank

pub fresh_still : (t : Tree) {s : State} → t.root < t.columns → Fresh t s → Still s
fresh_still t {s} below f = record {
  no_packet = f.no_packet;
  idle = λ i h. (λ q m. in_none (set i h (λ (c : Column). In c.send q) m), λ q m. in_none (set i h (λ (c : Column). In c.awaited q) m));
  owes_nobody = λ i h q m. in_none (set i h (λ (c : Column). In c.owed q) m);
  agree = λ i j h k. zero_number i h ∙ sym (zero_number j k);
}
  where
    inside : (i : ℕ) → Runs s i → i < t.columns
    inside = (fresh_invariant t f below).inside

    set : (i : ℕ) → Runs s i → (P : Column → Type 0) → P (s.columns i) → P (fresh t i)
    set i h P = subst P (f.columns_fresh i (inside i h))

    zero_number : (i : ℕ) → Runs s i → number s i ≡ 0
    zero_number i h = ap (λ (c : Column). c.number) (f.columns_fresh i (inside i h))

-- ---- a bank at rest

pub rest_still : (t : Tree) → IsTree t → {s : State} → Invariant t s → Rest t s → Still s
rest_still t tree {s} inv rest = record {
  no_packet = rest.no_packet;
  idle = idle;
  owes_nobody = none_owed t tree inv rest;
  agree = rest_agrees t tree inv rest;
}
  where
    idle : (i : ℕ) → Runs s i → Idle (s.columns i)
    idle i h = (rest.no_send i h, none_awaited t tree inv rest i h)

-- ---- a halted column comes back to a bank at rest

module _ {t : Tree} {s s' : State} {j l noted sender : ℕ} {whole : Bool} (b : Returns t s s' j (rejoined (s.columns j) (s.columns l) noted whole sender)) where
  each : (P : Column → Type 0) → P (rejoined (s.columns j) (s.columns l) noted whole sender) → ((i : ℕ) → P (struck (s.columns i) j)) → ((i : ℕ) → P (s.columns i))
      → (i : ℕ) → P (s'.columns i)
  each P h f g = returned_each b (λ (i : ℕ) (c : Column). P c) h (λ i _ _. f i) (λ i _ _. g i)

  pub still_returned : Still s → Runs s l → Still s'
  still_returned f r = record {
    no_packet = b.packets ∙ f.no_packet;
    idle = each (λ (c : Column). c.running ≡ true → Idle c) (λ _. (λ q m. in_none m, λ q m. in_none m)) (λ i. f.idle i) (λ i. f.idle i);
    owes_nobody = each (λ (c : Column). c.running ≡ true → Empty c.owed) (λ _ q m. in_none m) (λ i. f.owes_nobody i) (λ i. f.owes_nobody i);
    agree = λ i k h z. as_before i h ∙ sym (as_before k z);
  }
    where
      as_before : (i : ℕ) → Runs s' i → number s' i ≡ number s l
      as_before = each (λ (c : Column). c.running ≡ true → c.number ≡ number s l) (λ _. refl) (λ i h. f.agree i l h r) (λ i h. f.agree i l h r)
