-- A step that rewrites the place of one column: an order, what a column does by itself, or a take, which takes its packet off. Assumes nothing.
use Rattle.std.specs.Prelude.{ℕ, ◌<◌, ◌≡◌, refl, ◌⊎◌, Bool, true, false, ◌||◌, List, [], ◌∷◌, leb, get_or}
use Rattle.std.proofs.Common.{sym, ap, subst, ◌∙◌, inl, inr, true≢false, arith, eq-eqb, eqb-true, leb-false}
use Rattle.std.proofs.lemmas.Bool.{lt-leb}
use Rattle.column.specs.laws.Cases.{truth}
use Rattle.column.specs.Refusals.{first, earlier, refusal_number}
use Rattle.column.specs.declared.error.Refusal.{Refusal}
use Rattle.column.specs.laws.RefusalLaws.{earlier_none, passed}
use Rattle.column.specs.Packets.{receiver}
use Rattle.column.specs.laws.StateLaws.{acceptable}
use Rattle.bank.specs.Words.{receiver_in}
use Rattle.bank.specs.laws.WordLaws.{receiver_of}
use Rattle.bank.specs.Banks.{State, packet_at, capacity, bank_refusal}
use Rattle.bank.specs.laws.ValidityLaws.{Valid, valid, acting}
use Rattle.bank.specs.Steps.{refused, delivered, take_refusal}
use Rattle.bank.specs.laws.StepLaws.{refused_unless, unless_goes}
use Rattle.bank.specs.Performs.{perform}
use Rattle.bank.specs.laws.Kinds.{take_is}
use Rattle.bank.specs.inner.Moves.{acts, own_opening, Moving, place_in}
use Rattle.bank.specs.Parts.{receiver_at}
use Rattle.bank.specs.StepKinds.{is_take, is_own, is_move}
use Rattle.bank.proofs.laws.ChangeLaws.{own_refused}
use Rattle.bank.specs.declared.bank.Step.{Step}
use Rattle.bank.specs.declared.bank.Step.TheVariants.{Take}

-- ---- laws

pub receiver_at_lem : (place : ℕ) (heads : List ℕ) → place < capacity → receiver_at place heads ≡ receiver_in (get_or heads place 0)
unfolding receiver_at
receiver_at_lem place heads h = rw (lt-leb capacity place h)

-- a take is of the receiver of its packet
pub taker : (s : State) (place : ℕ) {i : ℕ} → i ≡ receiver_at place s.heads → Moving s (Take place) i
taker s place {i} e =
    (refl, λ h. eq-eqb i (receiver (packet_at s place)) (e ∙ receiver_at_lem place s.heads (h refl) ∙ sym (receiver_of (get_or s.heads place 0) (get_or s.doors place 0))))

module _ (columns : ℕ) (x : Step) (i count : ℕ) where
  pub opening_take : is_take x ≡ true → own_opening columns x i count ≡ first ((10, leb count (place_in x)) ∷ [])
  opening_take e = rw e

  pub opening_own : is_take x ≡ false → own_opening columns x i count ≡ first ((4, leb columns i) ∷ [])
  opening_own e = rw e

pub take_acts : (s : State) (x : Step) (i : ℕ) → is_take x ≡ true → acts s x i ≡ true → i ≡ receiver (packet_at s (place_in x))
take_acts s x i e a = eqb-true i (receiver (packet_at s (place_in x))) (subst (λ (y : Step). acts s y i ≡ true) (take_is x e) a)

pub own_is : (x : Step) → is_move x ≡ true → is_take x ≡ false → is_own x ≡ true
own_is x m e = ap (λ (b : Bool). b || is_own x) (sym e) ∙ m

pub take_performs : (s : State) (x : Step) → is_take x ≡ true → bank_refusal s ≡ 0 → place_in x < s.bank.count
    → delivered s (place_in x) (packet_at s (place_in x)) ≡ perform s x
unfolding perform
take_performs s x e ok there =
    unless_goes s (delivered s (place_in x) (packet_at s (place_in x))) 0 (take_refusal s (place_in x))
    (rw (eq-eqb (bank_refusal s) 0 ok, lt-leb s.bank.count (place_in x) there)) refl
    ∙ ap (perform s) (sym (take_is x e))

-- what the bank and the step's own tests refuse
abbrev pub opening : State → Step → ℕ → ℕ
opening s x i = earlier (bank_refusal s) (own_opening s.bank.tree.columns x i s.bank.count)

pub opening_refused : (s : State) (x : Step) (i : ℕ) (e : Refusal) → Moving s x i → refusal_number e ≡ opening s x i
    → refused (refusal_number e) s ≡ perform s x
unfolding perform
opening_refused s x i e moving is = go (truth (is_take x))
  where
    go : (is_take x ≡ true) ⊎ (is_take x ≡ false) → refused (refusal_number e) s ≡ perform s x
    go (inl takes) =
        refused_unless s (delivered s (place_in x) (packet_at s (place_in x))) (take_refusal s (place_in x)) e (is ∙ ap (earlier (bank_refusal s)) (opening_take _ x i _ takes))
        ∙ ap (perform s) (sym (take_is x takes))
    go (inr own) =
        own_refused s x i e (own_is x moving.0 own) (moving.1 (λ z. absurd (true≢false (sym z ∙ own)))) (is ∙ ap (earlier (bank_refusal s)) (opening_own _ x i _ own))

-- where it is 0 the bank is valid, and has the column and the packet
pub record Opened (s : State) (x : Step) (i : ℕ) : Type 0 where
  pub stood : Valid s
  pub there : is_take x ≡ true → place_in x < s.bank.count
  pub below : i < s.bank.tree.columns
  pub actor : acts s x i ≡ true

pub opened : (s : State) (x : Step) (i : ℕ) → Moving s x i → opening s x i ≡ 0 → Opened s x i
opened s x i moving e = go (truth (is_take x))
  where
    go : (is_take x ≡ true) ⊎ (is_take x ≡ false) → Opened s x i
    go (inl takes) =
        let late : List (ℕ × Bool) = (10, leb s.bank.count (place_in x)) ∷ [] in
        let passes : earlier (bank_refusal s) (first late) ≡ 0 = ap (earlier (bank_refusal s)) (sym (opening_take _ x i _ takes)) ∙ e in
        let q = earlier_none (bank_refusal s) (first late) passes in
        let l = leb-false s.bank.count (place_in x) (passed late tt q.1).0 in
        let w = valid s q.0 in
        let a = moving.1 (λ z. omega (arith, l, w.room)) in
        record {
          stood = w;
          there = λ z. l;
          below = rw (take_acts s x i takes a) (acceptable s.bank.tree (packet_at s (place_in x)) (w.packets (place_in x) l)).receiver_below;
          actor = a;
        }
    go (inr own) =
        let w = acting s i (ap (earlier (bank_refusal s)) (sym (opening_own _ x i _ own)) ∙ e) in
        record {
          stood = w.0;
          there = λ z. absurd (true≢false (sym z ∙ own));
          below = w.1;
          actor = moving.1 (λ z. absurd (true≢false (sym z ∙ own)));
        }
