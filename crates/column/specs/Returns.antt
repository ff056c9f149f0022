-- What a return makes of one column, after document 02, Point 7: of the column that comes back, and of each other.
use Rattle.std.specs.Prelude.{ℕ, Bool, true}
use Rattle.column.specs.Sets.{without}
use Rattle.column.specs.declared.state.Column.{Column}

-- "The column runs with the record of the lowest running column and empty sets. It has noted exactly the columns that remain halted": `own` is
-- the column that comes back, c the one that it copies, `noted` the set of these columns, `whole` its goal; document 02, Point 9: it "keeps who sent its record: .. the column copied
-- from after coming back"
abbrev pub rejoined : Column → Column → ℕ → Bool → ℕ → Column
rejoined own c noted whole sender =
    record {
      running = true;
      number = c.number;
      doors = c.doors;
      send = 0;
      awaited = 0;
      owed = 0;
      noted = noted;
      whole = whole;
      sender = sender;
      mask = own.mask;
      pending = own.pending;
    }

-- "all others strike it from those noted"
abbrev pub struck : Column → ℕ → Column
struck c j =
    record {
      running = c.running;
      number = c.number;
      doors = c.doors;
      send = c.send;
      awaited = c.awaited;
      owed = c.owed;
      noted = without c.noted j;
      whole = c.whole;
      sender = c.sender;
      mask = c.mask;
      pending = c.pending;
    }
