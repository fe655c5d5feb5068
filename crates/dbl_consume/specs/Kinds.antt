-- The kind of a record's effect: the effect without the cells that it sets.
use Rattle.std.specs.Prelude.{ℕ, List, Bool, is_some, Result, Ok, Err}
use Rattle.std.specs.List.{list_all}
use Rattle.dbl_record.specs.declared.acts.GivenCell.{GivenCell}
use Rattle.dbl_record.specs.declared.acts.Act.{Act}
use Rattle.dbl_record.specs.declared.acts.Act.TheVariants as acts
use Rattle.dbl_record.specs.declared.acts.ConsumeError.{ConsumeError}
use Rattle.dbl_record.specs.declared.reading.Line.{Line}
use Rattle.dbl_record.specs.Acts.{act}
use Rattle.dbl_consume.specs.declared.kinds.Kind.{Kind}
use Rattle.dbl_consume.specs.declared.kinds.Kind.TheVariants.{Nothing, Wipe, Remove, Set}

-- whether every cell was sent
abbrev pub are_sent : List GivenCell → Bool
are_sent cells = list_all (λ cell. is_some cell.text) cells

-- the kind of an effect
abbrev pub kind_of : Act → Kind
kind_of acts.Nothing = Nothing
kind_of (acts.Set key cells) = Set key (are_sent cells)
kind_of (acts.Remove key) = Remove key
kind_of acts.Wipe = Wipe

-- the kind of an effect, or the error in its place
abbrev pub kind_in : Result Act ConsumeError → Result Kind ConsumeError
kind_in (Ok done) = Ok (kind_of done)
kind_in (Err error) = Err error

-- the kind of a record's effect, or why the record is refused, given the placeholder of values that weren't sent
abbrev pub kind : List ℕ → Line → Result Kind ConsumeError
kind placeholder line = kind_in (act placeholder line)
