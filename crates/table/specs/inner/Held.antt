-- What is read of a text, as its reader holds it.
use Rattle.std.specs.Prelude.{Option, Some, None}
use Rattle.text.specs.Text.{Reading, read, unread}

abbrev pub held : {A B : Type 0} → (A → B) → Reading A → Option B
held f (read a) = Some (f a)
held f unread = None
