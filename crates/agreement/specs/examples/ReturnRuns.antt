-- Two banks in which a column is halted and noted, computed: each premise of `RestsAfter` and `Restores` holds of the one, each of `RestsAfterAny` of the other.
use Rattle.std.specs.Prelude.{ℕ, zero, suc, ◌<◌, ◌≡◌, refl, Bool, true, false, ◌||◌, ◌⊎◌, List, [], ◌∷◌, map, eqb, length, get_or, replicate}
use Rattle.std.proofs.Common.{sym, ap, subst, ◌∙◌, true≢false, inl, inr, arith, eqb-true}
use Rattle.std.proofs.Math.Bool.{or-false}
use Rattle.std.proofs.lemmas.List.{length-replicate}
use Rattle.std.specs.Int.Count.{count_trailing_zeros}
use Rattle.column.specs.laws.Cases.{or_cases}
use Rattle.column.specs.Sets.{selected}
use Rattle.column.specs.Trees.{tree_of, every, climbs_in, tree_refusal}
use Rattle.column.specs.Columns.{state_refusal, numbers}
use Rattle.column.specs.Steps as core
use Rattle.column.specs.declared.state.Column.{Column}
use Rattle.bank.specs.Words.{packet_of}
use Rattle.bank.specs.Networks.{keeping, padded, puts, vanished}
use Rattle.bank.specs.Banks.{State, state, no_column, column_at, runs, capacity, places, fresh_place, bank_refusal}
use Rattle.bank.specs.Steps.{Result, accepted, refused, fitting, acted, rewriting, halted, halt_refusal}
use Rattle.bank.specs.Rest.{is_refused, Running, AtRest, is_at_rest}
use Rattle.bank.specs.Returns.{back_refusal, returned}
use Rattle.bank.specs.Performs.{perform}
use Rattle.bank.specs.Strips.{among, Distinct}
use Rattle.bank.specs.declared.bank.Step.{Step}
use Rattle.bank.specs.declared.bank.Step.TheVariants.{Note, Halt, Back}
use Rattle.agreement.specs.History.{World, columns_of, told, run, step}
use Rattle.agreement.specs.Agreement.{AfterEveryList}
use Rattle.agreement.specs.Returning.{Formed, RestsAfterAny, StillRests, RestsAfter, Restored, Undone, Restores}
use Rattle.agreement.specs.examples.Premises.{follow_steps}
use Rattle.agreement.specs.examples.Runs.{chain, from_fresh}

-- column 2 of three is halted, and the two others have noted it
abbrev gone : List Step
gone = Halt 4 ∷ Note 0 2 ∷ Note 1 2 ∷ []

abbrev pub world : World
world = run (from_fresh chain) gone

abbrev pub noters : List ℕ
noters = 1 ∷ 0 ∷ []

-- whether its return is refused, who runs, how many columns there are, whether the table is refused
pub computed : ◌≡◌ {A = Bool × Bool × Bool × ℕ × ℕ}
    (is_refused (perform world.state (Back 2)), runs world.state.bank 0, runs world.state.bank 1, columns_of world, tree_refusal chain)
    (false, true, true, 3, 0)
unfolding run told perform every keeping padded places fresh_place bank_refusal packet_of puts vanished fitting acted rewriting halted halt_refusal back_refusal returned is_at_rest climbs_in tree_refusal state_refusal selected count_trailing_zeros core.send_refusal core.ack_refusal core.all_refusal core.note_refusal core.note_effect
computed = refl

comes : (o : Result State) → is_refused o ≡ false → (s : State) × (o ≡ accepted s)
comes (accepted s) e = (s, refl)
comes (refused n s) e = absurd (true≢false e)

pub back_accepted : (s : State) × (perform world.state (Back 2) ≡ accepted s)
back_accepted = comes (perform world.state (Back 2)) (ap (λ x. x.0) computed)

pub noters_differ : Distinct noters
noters_differ = (refl, (refl, tt))

pub noters_run : (i : ℕ) → among noters i ≡ true → Running world.state i
noters_run i m = go (or_cases (eqb i 1) (eqb i 0 || false) m)
  where
    three : columns_of world ≡ 3
    three = ap (λ x. x.3) computed

    go : (eqb i 1 ≡ true) ⊎ ((eqb i 0 || false) ≡ true) → Running world.state i
    go (inl e) = subst (Running world.state) (sym (eqb-true i 1 e)) (omega (arith, three), ap (λ x. x.2) computed)
    go (inr e) = subst (Running world.state) (sym (eqb-true i 0 (sym (or-false (eqb i 0)) ∙ e))) (omega (arith, three), ap (λ x. x.1) computed)

-- ---- what the statements say of it

module _ (P : World → Type 0) (f : AfterEveryList P) where
  spoken_of : P world
  spoken_of =
      let words : length {A = ℕ} (replicate capacity 0) ≡ capacity = length-replicate {A = ℕ} capacity 0 in
      subst P (follow_steps (from_fresh chain) gone)
      (f chain (ap (λ x. x.4) computed) (replicate capacity 0) (replicate capacity 0) words words (map step gone))

pub rests_said : RestsAfter → AtRest back_accepted.0
rests_said rests = spoken_of StillRests rests 2 back_accepted.0 back_accepted.1

pub restored_said : Restores → Restored world 2 noters
restored_said restores = spoken_of Undone restores 2 back_accepted.0 back_accepted.1 noters noters_differ noters_run

-- ---- a bank that is handed in, which no list of steps from fresh leads to: the root is not the lowest column, and the records differ

abbrev holding : Bool → ℕ → ℕ → Bool → Column
holding running number noted whole =
    record { running = running; number = number; doors = number; send = 0; awaited = 0; owed = 0; noted = noted; whole = whole; sender = 1; mask = 0; pending = 0 }

-- columns=3, root=1, up=1,1,1; column 2 is halted, and the two others have noted it
abbrev handed : State
handed =
    state
    (record {
      tree = tree_of 3 1 (1 ∷ 1 ∷ 1 ∷ replicate 13 0);
      columns = holding true 5 4 false ∷ holding true 3 4 true ∷ holding false 7 0 false ∷ replicate 13 no_column;
      count = 0;
    })
    (replicate capacity 0)
    (replicate capacity 0)

-- "with the record of the lowest running column"
pub handed_back : ◌≡◌ {A = Bool × ℕ} (is_refused (perform handed (Back 2)), (column_at (returned handed.bank 2) 2).number) (false, 5)
unfolding perform every keeping padded places fresh_place bank_refusal packet_of puts vanished fitting acted rewriting halted halt_refusal back_refusal returned is_at_rest climbs_in tree_refusal state_refusal selected count_trailing_zeros core.send_refusal core.ack_refusal core.all_refusal core.note_refusal core.note_effect
handed_back = refl

unused_fit : (n k : ℕ) → (get_or (replicate n no_column) k no_column).number < numbers
unused_fit zero k = omega arith
unused_fit (suc n) zero = omega arith
unused_fit (suc n) (suc k) = unused_fit n k

pub handed_formed : Formed handed
handed_formed = record {
  places = refl;
  whole = record { heads_length = length-replicate {A = ℕ} capacity 0; doors_length = length-replicate {A = ℕ} capacity 0 };
  numbers_fit = fit;
}
  where
    fit : (i : ℕ) → (column_at handed.bank i).number < numbers
    fit zero = omega arith
    fit (suc zero) = omega arith
    fit (suc (suc zero)) = omega arith
    fit (suc (suc (suc k))) = unused_fit 13 k

pub handed_accepted : (s : State) × (perform handed (Back 2) ≡ accepted s)
handed_accepted = comes (perform handed (Back 2)) (ap (λ x. x.0) handed_back)

pub any_said : RestsAfterAny → AtRest handed_accepted.0
any_said rests = rests handed handed_formed 2 handed_accepted.0 handed_accepted.1
