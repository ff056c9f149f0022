-- What a packet taken leaves pending.
use Rattle.std.specs.Prelude.{ℕ, ◌≡◌, eqb, ltb}
use Rattle.std.proofs.Math.Path.{refl, ap}
use Rattle.std.proofs.Common.{arith, eqb-true}
use Rattle.std.proofs.Math.Bool.{not}
use Rattle.column.specs.laws.Cases.{none_and}
use Rattle.column.specs.laws.RefusalLaws.{earlier_none}
use Rattle.column.specs.Columns.{validity_refusal, record_received}
use Rattle.column.specs.laws.StateLaws.{validity_refusal_sound}
use Rattle.column.specs.Steps.{take_refusal, acknowledgement_effect, receive_effect, message_effect, take_effect, take}
use Rattle.column.specs.declared.tree.Tree.{Tree}
use Rattle.column.specs.declared.state.Column.{Column}
use Rattle.column.specs.declared.packet.Packet.{Packet}
use Rattle.column.specs.declared.packet.Packet.TheVariants.{Message, Acknowledgement}
use Rattle.column.specs.laws.PageLaws.{TellsOf, itself, raised, tells_unless, tells_cond, steady, unmoved}

module _ (t : Tree) (i : ℕ) (c : Column) where
  -- a record is received where a higher number is, and its packet not left in its place
  message_tells : (from number doors : ℕ) → validity_refusal t i c ≡ 0 → TellsOf c (message_effect t i c from number doors)
  unfolding message_effect receive_effect
  message_tells from number doors good =
      tells_cond c (eqb number c.number) _ _ (λ _. steady c _ _ _) (λ other.
      tells_cond c (ltb number c.number) _ _ (λ _. unmoved c) (λ _.
      tells_cond c (eqb c.owed 0) _ _
      (λ _. raised c record_received _ (omega arith) refl refl (ap not other) (itself c c.noted)
      (none_and (eqb i t.root) (not c.whole) (λ root. ap not ((validity_refusal_sound t i c good).root_whole (eqb-true i t.root root)))))
      (λ _. steady c _ _ _)))

  pub take_tells : (p : Packet) → TellsOf c (take t i c p)
  unfolding take_refusal acknowledgement_effect
  take_tells p = tells_unless c (take_refusal t i c p) _ (λ e. go p (earlier_none (validity_refusal t i c) _ e).0)
    where
      go : (p : Packet) → validity_refusal t i c ≡ 0 → TellsOf c (take_effect t i c p)
      go (Message from to number doors) good = message_tells from number doors good
      go (Acknowledgement from to number) good = tells_cond c (eqb number c.number) _ _ (λ _. steady c _ _ _) (λ _. unmoved c)
