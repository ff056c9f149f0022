-- A request as its reader answers it, and the tree that is asked for.
use Rattle.std.specs.Prelude.{Option, Some, None}
use Rattle.column.specs.Refusals.{Given, refused}
use Rattle.column.specs.declared.tree.Tree.{Tree}
use Rattle.text.specs.Text.{Reading, read, unread}
use Rattle.fastest.specs.Strategy.{fastest_given}
use Rattle.fastest.specs.declared.request.Request.{Request}
use Rattle.fastest_text.specs.Requests as requests

abbrev pub request_meant : Option Request → Reading requests.Request
request_meant (Some r) = read (record { columns = r.columns; delay = r.delay; gap = r.gap })
request_meant None = unread

-- "another form being 1"
abbrev pub tree_given : Reading requests.Request → Given Tree
tree_given (read r) = fastest_given r.columns r.delay r.gap
tree_given unread = refused 1
