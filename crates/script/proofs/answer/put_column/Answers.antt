use Rattle.std.proofs.Common.{ℕ, ◌%◌, ◌≤◌, ◌<◌, ◌≡◌, Result, Ok, sym, ap, subst, ◌∙◌, arith}
use Rattle.std.proofs.lemmas.Bool.{not-true, not-false}
use Rattle.column.specs.Refusals.{refusal_of}
use Rattle.column.specs.declared.error.Refusal.{Refusal}
use Rattle.text.specs.laws.WritingLaws.{puts_all}
use Rattle.bank.specs.Banks.{State, bank_refusal}
use Rattle.bank.specs.Parts.{Tells}
use Rattle.bank.specs.laws.StepLaws.{some_number}
use Rattle.script.specs.laws.PlaceLineLaws.{same_text, listed_bank, listed_none, listed_halted, listed_runs}
use Rattle.script.proofs.answer.put_column.Goals as goal

below : (i : ℕ) → i % 16 < 16
below i = omega arith

-- what is known says that the bank is not refused
good : {known : Result ℕ Refusal} {s : State} (running : ℕ) → known ≡ Ok running → Tells known s → bank_refusal s ≡ 0
good running is tells = sym tells.refuses ∙ ap refusal_of is

pub returns-in-Err : goal.returns-in-Err
returns-in-Err c =
    λ s tells columns place.
    let n = c.in-Err.refusal in
    same_text (listed_bank s c.args.i (ap refusal_of (sym c.in-Err.is) ∙ tells.refuses) (some_number n)) c.put_refused.ensures

pub returns-then-columns-i : goal.returns-then-columns-i
returns-then-columns-i c =
    λ s tells columns place.
    let a = c.args in
    same_text (listed_none s a.i (good _ c.in_default.is tells) (subst (λ (n : ℕ). n ≤ a.i) (sym columns) c.if-columns-i.true)) c.put_refused-then-columns-i.ensures

pub returns-then-not-c : goal.returns-then-not-c
returns-then-not-c c =
    λ s tells columns place.
    let a = c.args in
    same_text (listed_halted s a.i (good _ c.in_default.is tells) (subst (λ (n : ℕ). a.i < n) (sym columns) c.if-columns-i.false) a.c place (not-true _ c.if-not-c.true))
    c.put_refused-then-not-c.ensures

pub returns : goal.returns
returns c =
    λ s tells columns place.
    let a = c.args in
    same_text (listed_runs s a.i (good _ c.in_default.is tells) (subst (λ (n : ℕ). a.i < n) (sym columns) c.if-columns-i.false) a.c place (not-false _ c.if-not-c.false))
    (puts_all _ (omega (arith, c.requires, c.put_list.ensures.c_len_bound (below a.i))) c.put_list.ensures.puts)
