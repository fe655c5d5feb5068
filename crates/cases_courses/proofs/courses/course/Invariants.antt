use Rattle.std.proofs.Common.{◌≡◌}
use Rattle.dbl_consume_courses.specs.Versions.{versions_to}
use Rattle.dbl_consume_courses.specs.Courses.{course_from, course}
use Rattle.cases_courses.specs.AlteredHistories.{all_versioned, course_with}
use Rattle.cases_courses.proofs.courses.course.Given as goal

abbrev pub invariant-loop-version : goal.invariant-loop-version
invariant-loop-version l =
    course_from l.table (course_with l.course) (versions_to l.position (all_versioned l.version-iterator.rest.items))
    ≡ course l.fn.infos.items (all_versioned l.fn.versions.items) l.start l.table l.position
