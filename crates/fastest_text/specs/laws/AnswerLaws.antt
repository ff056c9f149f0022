-- What is written for a request is a table of the fastest tree. Assumes nothing.
use Rattle.std.specs.Prelude.{ℕ, zero, suc, ◌-◌, ◌≤◌, ◌≡◌, refl, Bool, true, false, cond, List, [], ◌∷◌, ◌++◌, eqb, length, get_or, take, replicate}
use Rattle.std.proofs.Common.{sym, ap, ap₂, append-nil, arith, ne_eqb, eqb-true}
use Rattle.column.specs.Refusals.{given, refused}
use Rattle.column.specs.declared.tree.Tree.{Tree}
use Rattle.text.specs.Text.{first_key, watch_key, Reading, read, unread, starts_with, refused_text}
use Rattle.bank.specs.Steps.{accepted}
use Rattle.table.specs.Tables.{placed_at, read_table, table_text}
use Rattle.table.specs.laws.TableTexts.{reads_back}
use Rattle.fastest.specs.Strategy.{grown, fastest_tree, fastest_refusal}
use Rattle.fastest.specs.laws.StrategyLaws.{made, past_columns, allowed}
use Rattle.fastest.specs.laws.FastestLaws.{is_scheduled}
use Rattle.fastest_text.specs.Requests.{Request, request_of, answer_text, request_text}
use Rattle.fastest_text.specs.inner.RequestAnswers.{tree_given}
use Rattle.fastest_text.specs.laws.RequestLaws.{table_longest}

-- a list of k numbers that are 0 from n on is its first n with zeros after them
padded : (l : List ℕ) (k m n : ℕ) → length l ≡ k → k ≤ m → ((c : ℕ) → n ≤ c → get_or l c 0 ≡ 0) → take k (take n l ++ replicate m 0) ≡ l
padded [] zero m n e h z = refl
padded [] (suc k) m n e h z = absurd (omega arith)
padded (x ∷ l) zero m n e h z = absurd (omega arith)
padded (x ∷ l) (suc k) zero n e h z = absurd (omega arith)
padded (x ∷ l) (suc k) (suc m) zero e h z =
    ap₂ (λ (y : ℕ) (r : List ℕ). y ∷ r) (sym (z 0 (omega arith))) (padded l k m zero (omega arith) (omega arith) (λ c b. z (suc c) (omega arith)))
padded (x ∷ l) (suc k) (suc m) (suc n) e h z =
    ap (λ (r : List ℕ). x ∷ r) (padded l k (suc m) n (omega arith) (omega arith) (λ c b. z (suc c) (omega arith)))

-- what is written for a request that is not refused, read as a table, gives the fastest tree
pub fastest_read : (columns delay gap : ℕ) → fastest_refusal columns delay gap ≡ 0 → (rest : List ℕ) → starts_with first_key rest ≡ false
    → starts_with watch_key rest ≡ false → read_table (table_text (fastest_tree columns delay gap) ++ rest)
    ≡ accepted (placed_at (fastest_tree columns delay gap) (length (table_text (fastest_tree columns delay gap))))
fastest_read columns delay gap e rest other unwatched =
    let p = (allowed columns delay gap e).possible in
    let wide = (made delay gap p.delays p.gaps (columns - 1) (omega (arith, p.few, p.some))).wide.up in
    reads_back (fastest_tree columns delay gap) (is_scheduled columns delay gap p).is_tree wide refl refl
    (padded (grown delay gap (columns - 1)).up 16 16 columns wide (omega arith) (λ c l. past_columns delay gap (columns - 1) c (omega (arith, p.some))))
    rest other unwatched

pub answer_table : (input : List ℕ) (r : Request) → request_of input ≡ read r → fastest_refusal r.columns r.delay r.gap ≡ 0
    → request_text input ≡ table_text (fastest_tree r.columns r.delay r.gap)
unfolding answer_text
answer_table input r q e = rw (q, e)

nothing_follows : (starts_with first_key [] ≡ false) × (starts_with watch_key [] ≡ false)
unfolding starts_with
nothing_follows = (refl, refl)

pub answer_read : (input : List ℕ) (r : Request) → request_of input ≡ read r → fastest_refusal r.columns r.delay r.gap ≡ 0
    → read_table (request_text input)
    ≡ accepted (placed_at (fastest_tree r.columns r.delay r.gap) (length (request_text input)))
answer_read input r q e =
    let t = fastest_tree r.columns r.delay r.gap in
    rw (answer_table input r q e) (rw (append-nil (table_text t)) at (fastest_read r.columns r.delay r.gap e [] nothing_follows.0 nothing_follows.1))

-- ---- the other answers, and the room that a table takes

pub answer_unread : (input : List ℕ) → request_of input ≡ unread → request_text input ≡ refused_text 1
unfolding answer_text
answer_unread input q = rw q

pub answer_refused : (input : List ℕ) (r : Request) (n : ℕ) → request_of input ≡ read r → n ≡ fastest_refusal r.columns r.delay r.gap
    → (n ≡ 0 → ⊥) → request_text input ≡ refused_text n
unfolding answer_text
answer_refused input r n q e ne = rw (q, ← e, ne_eqb n 0 ne)

pub table_fits : (columns delay gap : ℕ) → fastest_refusal columns delay gap ≡ 0
    → (columns ≤ 16) × (length (table_text (fastest_tree columns delay gap)) ≤ 70)
table_fits columns delay gap e =
    let p = (allowed columns delay gap e).possible in
    (p.few, table_longest (fastest_tree columns delay gap) (is_scheduled columns delay gap p).is_tree)

-- ---- what is answered, by the tree that is asked for

pub record Tabled (q : Reading Request) (t : Tree) : Type 0 where
  pub text : answer_text q ≡ table_text t
  pub columns : t.columns ≤ 16
  pub fits : length (table_text t) ≤ 70

pub answer_given : (q : Reading Request) (t : Tree) → given t ≡ tree_given q → Tabled q t
unfolding answer_text
answer_given (read r) t e = go (eqb (fastest_refusal r.columns r.delay r.gap) 0) refl e
  where
    go : (b : Bool) → eqb (fastest_refusal r.columns r.delay r.gap) 0 ≡ b
        → given t ≡ cond b (given (fastest_tree r.columns r.delay r.gap)) (refused (fastest_refusal r.columns r.delay r.gap))
        → Tabled (read r) t
    go true b e =
        let same : t ≡ fastest_tree r.columns r.delay r.gap = cc in
        let size = table_fits r.columns r.delay r.gap (eqb-true _ 0 b) in
        rw same (record { text = rw b; columns = size.0; fits = size.1 })
    go false b e = cc
answer_given unread t e = cc

pub answer_not_given : (q : Reading Request) (n : ℕ) → refused n ≡ tree_given q → answer_text q ≡ refused_text n
unfolding answer_text
answer_not_given (read r) n e = go (eqb (fastest_refusal r.columns r.delay r.gap) 0) refl e
  where
    go : (b : Bool) → eqb (fastest_refusal r.columns r.delay r.gap) 0 ≡ b
        → refused n ≡ cond b (given (fastest_tree r.columns r.delay r.gap)) (refused (fastest_refusal r.columns r.delay r.gap))
        → answer_text (read r) ≡ refused_text n
    go true b e = cc
    go false b e = let same : n ≡ fastest_refusal r.columns r.delay r.gap = cc in rw (b, same)
answer_not_given unread n e = let same : n ≡ 1 = cc in rw same
