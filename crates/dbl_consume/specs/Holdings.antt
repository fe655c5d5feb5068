-- A consumer's state, and the records applied to it.
use Rattle.std.specs.Prelude.{◌≡◌, ℕ, List}
use Rattle.dbl_record.specs.Acts.{Reading}
use Rattle.dbl_record.specs.Consumers.{consumer_of}
use Rattle.dbl_consume.specs.declared.consumer.Consumer.{Consumer}
use Rattle.dbl_consume.specs.Rows.{Tables, row_at}

-- the placeholder of values that weren't sent
abbrev pub placeholder_of : Consumer → List ℕ
placeholder_of held = held.placeholder

-- the tables of the consumer's state
abbrev pub tables_of : Consumer → Tables
tables_of held = held.tables

-- these records were applied in order: each row of the consumer's state is that of `consumer_of`
abbrev pub Took : List Reading → Consumer → Type 0
Took readings held = (topic key : List ℕ) → row_at (tables_of held) topic key ≡ consumer_of (placeholder_of held) readings topic key
