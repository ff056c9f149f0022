-- What two reads consumed, one after the other, stands at the start of the buffer.
use Rattle.std.proofs.Common.{ℕ, ◌+◌, ◌≤◌, List, ◌++◌, length, take, subst, sym, ap, ◌∙◌, length-take-le}
use Rattle.std.proofs.Math.Seq.{take-append-add}
use Rattle.std.proofs.lemmas.List.{take-append-le}
use Rattle.std.specs.declared.option.Option.{Option}
use Rattle.std.specs.Io.KnownBytes.{Consumes}
use Rattle.std.proofs.KnownBytes.{Consumes-trans}

pub filled_more : (a b c : Option (List ℕ)) (xs ys rest : List ℕ) (at n : ℕ) → at ≤ length xs → n ≤ length ys
    → Consumes a b (take at xs) → Consumes b c (take n ys) → Consumes a c (take (at + n) (take at xs ++ (ys ++ rest)))
filled_more a b c xs ys rest at n within fits before read =
    let front = ap (λ k. take (k + n) (take at xs ++ (ys ++ rest))) (sym (length-take-le at xs within)) in
    let joined = front ∙ take-append-add (take at xs) (ys ++ rest) n ∙ ap (λ l. take at xs ++ l) (take-append-le n ys rest fits) in
    subst (Consumes a c) (sym joined) (Consumes-trans a b c _ _ before read)
