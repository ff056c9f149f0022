-- The steps by who takes them: a halt and a return are done to columns, a write by a host; every other one is of one running column.
use Rattle.std.specs.Prelude.{ℕ, ◌≡◌, refl, Bool, true, false, ◌||◌}
use Rattle.std.proofs.Common.{sym, true≢false}
use Rattle.bank.specs.StepKinds.{ordering, halting, writing, is, is_take, is_move, is_back}
use Rattle.bank.specs.inner.Moves.{place_in}
use Rattle.bank.specs.declared.bank.Step.{Step}
use Rattle.bank.specs.declared.bank.Step.TheVariants.{Order, Send, Take, Ack, All, Note, Halt, Back, Write}

abbrev pub is_order : Step → Bool
is_order x = is ordering x

abbrev pub is_halt : Step → Bool
is_halt x = is halting x

abbrev pub is_write : Step → Bool
is_write x = is writing x

-- the steps that may rewrite the place of a column that does not run
abbrev pub of_halted : Step → Bool
of_halted x = is_back x || is_write x

-- the steps that no running column takes
abbrev pub by_no_column : Step → Bool
by_no_column x = is_halt x || of_halted x

pub take_is : (x : Step) → is_take x ≡ true → x ≡ Take (place_in x)
take_is (Order doors) e = absurd (true≢false (sym e))
take_is (Send k) e = absurd (true≢false (sym e))
take_is (Take place) e = refl
take_is (Ack k) e = absurd (true≢false (sym e))
take_is (All k) e = absurd (true≢false (sym e))
take_is (Note k j) e = absurd (true≢false (sym e))
take_is (Halt m) e = absurd (true≢false (sym e))
take_is (Back j) e = absurd (true≢false (sym e))
take_is (Write k offset value) e = absurd (true≢false (sym e))

-- what is no take
pub no_take : (x : Step) → ((place : ℕ) → x ≡ Take place → ⊥) → is_take x ≡ false
no_take (Order doors) h = refl
no_take (Send i) h = refl
no_take (Take place) h = absurd (h place refl)
no_take (Ack i) h = refl
no_take (All i) h = refl
no_take (Note i j) h = refl
no_take (Halt m) h = refl
no_take (Back j) h = refl
no_take (Write i offset value) h = refl

-- what is none of the three that are of more than one place
pub moving : (x : Step) → ((m : ℕ) → x ≡ Halt m → ⊥) → ((j : ℕ) → x ≡ Back j → ⊥) → ((i offset value : ℕ) → x ≡ Write i offset value → ⊥)
    → is_move x ≡ true
moving (Order doors) halt back write = refl
moving (Send i) halt back write = refl
moving (Take place) halt back write = refl
moving (Ack i) halt back write = refl
moving (All i) halt back write = refl
moving (Note i j) halt back write = refl
moving (Halt m) halt back write = absurd (halt m refl)
moving (Back j) halt back write = absurd (back j refl)
moving (Write i offset value) halt back write = absurd (write i offset value refl)
