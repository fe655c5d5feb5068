-- The age of a log of an altered table.
use Rattle.std.proofs.Common.{◌≡◌, ◌<◌, inl, inr, List, [], ◌∷◌, ◌++◌, sym, ap, subst, arith}
use Rattle.std.specs.Prelude.{Contains}
use Rattle.dbl_record.specs.declared.record.Record.{Record}
use Rattle.dbl_consume_laws.specs.Ages.{held_row, IsAged}
use Rattle.dbl_consume_courses.specs.Since.{since}
use Rattle.dbl_consume_courses.specs.AlteredTables.{course_start, AgedCoursesAreOwn, NewCoursesAreAged, LateLogsAgeAsPlain, NothingIsKnownAtFirst, LateLogsHaveTheSameRows}
use Rattle.dbl_consume_courses.proofs.SinceLemmas.{ended, whole}
use Rattle.dbl_consume_laws.proofs.Spans.{no_records_are_aged}

pub own : AgedCoursesAreOwn
own identity c records from table aged = record { each = λ topic text key column names. aged.each topic text table key column names }

pub late_plain : LateLogsAgeAsPlain
late_plain identity c records from table late aged =
    own identity c records from table
    (subst (λ (l : List Record). IsAged identity c.infos c.commits (course_start c) l from) (sym (whole c.start records late)) aged)

pub new_aged : NewCoursesAreAged
new_aged identity c records item table early =
    own identity c (records ++ item ∷ []) (course_start c) table
    (subst (λ (l : List Record). IsAged identity c.infos c.commits (course_start c) l (course_start c)) (sym (ended c.start records item early))
    (no_records_are_aged identity c.infos c.commits (course_start c)))

pub no_item : (item : Record) → Contains [] item → ⊥
no_item item h = let none : h.0 < 0 = h.1 in omega (arith, none)

pub none_known : NothingIsKnownAtFirst
none_known identity c records item table key early (inl told) =
    let none : since c.start (records ++ item ∷ []) ≡ [] = ended c.start records item early in
    no_item told.item (subst (λ (l : List Record). Contains l told.item) none told.stands)
none_known identity c records item table key early (inr touched) = absurd (omega (arith, touched.not_before, touched.before))

pub same_rows : LateLogsHaveTheSameRows
same_rows identity c records topic text late = ap (λ (l : List Record). held_row identity l topic text) (sym (whole c.start records late))
