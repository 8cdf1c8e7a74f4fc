use Rattle.std.proofs.Common.{◌≡◌, drop}
use Rattle.sw_record.specs.Courses.{no_course, course_from}
use Rattle.sw_record.proofs.course.Course.of.Given as goal

abbrev pub invariant-loop-entry : goal.invariant-loop-entry
invariant-loop-entry l = course_from l.course l.id (drop l.entry-index l.entries) ≡ course_from no_course l.id l.entries
