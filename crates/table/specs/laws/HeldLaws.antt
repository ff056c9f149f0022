-- What is read of a text, by what its reader holds of it. Assumes nothing.
use Rattle.std.specs.Prelude.{◌≡◌, refl, Some, None}
use Rattle.text.specs.Text.{Reading, read, unread}
use Rattle.table.specs.inner.Held.{held}

module _ {A B : Type 0} (f : A → B) where
  pub nothing_read : (r : Reading A) → None ≡ held f r → r ≡ unread
  nothing_read (read a) e = cc
  nothing_read unread e = refl

  pub was_read : (r : Reading A) (b : B) → Some b ≡ held f r → (a : A) × (r ≡ read a) × (b ≡ f a)
  was_read (read a) b e = (a, refl, cc)
  was_read unread b e = cc
