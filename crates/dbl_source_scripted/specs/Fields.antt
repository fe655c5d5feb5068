-- The fields of a `ScriptedSource`. Its log has its alterations without their rows, which no call answers.
use Rattle.std.specs.Prelude.{[]}
use Rattle.std.specs.Vec.Iter.{into_iter_items}
use Rattle.dbl_source_scripted.specs.declared.scripted.ScriptedSource.TheInside.{Inside}
use Rattle.dbl_source_scripted.specs.AlteredRows.{filled}
use Rattle.dbl_source_scripted.specs.Played.{Played}

-- The played state of a source with these fields.
abbrev pub played_of : Inside → Played
played_of i = record {
  tables = i.tables.items;
  moves = into_iter_items i.moves;
  alters = i.alters.items;
  rows = i.rows.items;
  asked = i.asked.items;
  log = filled i.tables.items [] i.log.items;
  confirmed = i.confirmed;
  place = i.place;
  plan = i.plan;
  last = i.last;
  ended = i.ended;
  live = i.live;
}
