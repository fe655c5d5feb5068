-- For what the disks and the input tell there is one answer.
use Rattle.std.proofs.Common.{◌≡◌, ◌∙◌, ℕ, List, Err, sym, ap, arith}
use Rattle.dbl_model_table.proofs.Capturable.{capturable}
use Rattle.dbl_demo.specs.DemoWorkload.declared.error.DemoError.{DemoError}
use Rattle.dbl_demo.proofs.DemoWorkloadRefusalLaws.{one_refused, not_refused}
use Rattle.dblog_init.specs.declared.error.InitError.{InitError}
use Rattle.dblog_init.specs.Answers.{AnswersInput, InitEnd}
use Rattle.dblog_init.specs.Answers.AnswersInput.{too_long, refused, made}
use Rattle.dblog_init.specs.Answers.Answers.{wal_holds, topics_hold, offsets_hold, all_empty}
use Rattle.dblog_init.specs.Errors.{demo_error}
use Rattle.dblog_init.specs.Laws.{InitAnswersAreOne}

abbrev failed : InitError → InitEnd
failed e = Err e

-- the input means one thing
pub one_input : (bytes : List ℕ) (a b : InitEnd) → AnswersInput bytes a → AnswersInput bytes b → a ≡ b
one_input bytes a b (too_long long is) (too_long long' is') = is ∙ sym is'
one_input bytes a b (too_long long is) (refused short e none is') = absurd (omega (arith, long, short))
one_input bytes a b (too_long long is) (made short w of is') = absurd (omega (arith, long, short))
one_input bytes a b (refused short e none is) (too_long long is') = absurd (omega (arith, long, short))
one_input bytes a b (refused short e none is) (refused short' e' none' is') = is ∙ ap (λ (x : DemoError). failed (demo_error x)) (one_refused capturable bytes e e' none none') ∙ sym is'
one_input bytes a b (refused short e none is) (made short' w of is') = absurd (not_refused capturable bytes w e of none)
one_input bytes a b (made short w of is) (too_long long is') = absurd (omega (arith, long, short))
one_input bytes a b (made short w of is) (refused short' e none is') = absurd (not_refused capturable bytes w e of none)
one_input bytes a b (made short w of is) (made short' w' of' is') = is ∙ sym is'

pub one_answer : InitAnswersAreOne
one_answer given a b (wal_holds w h) (wal_holds w' h') = h ∙ sym h'
one_answer given a b (wal_holds w h) (topics_hold w' t' h') = absurd (w w')
one_answer given a b (wal_holds w h) (offsets_hold w' t' f' h') = absurd (w w')
one_answer given a b (wal_holds w h) (all_empty none input) = absurd (w none.wal)
one_answer given a b (topics_hold w t h) (wal_holds w' h') = absurd (w' w)
one_answer given a b (topics_hold w t h) (topics_hold w' t' h') = h ∙ sym h'
one_answer given a b (topics_hold w t h) (offsets_hold w' t' f' h') = absurd (t t')
one_answer given a b (topics_hold w t h) (all_empty none input) = absurd (t none.topics)
one_answer given a b (offsets_hold w t f h) (wal_holds w' h') = absurd (w' w)
one_answer given a b (offsets_hold w t f h) (topics_hold w' t' h') = absurd (t' t)
one_answer given a b (offsets_hold w t f h) (offsets_hold w' t' f' h') = h ∙ sym h'
one_answer given a b (offsets_hold w t f h) (all_empty none input) = absurd (f none.offsets)
one_answer given a b (all_empty none input) (wal_holds w' h') = absurd (w' none.wal)
one_answer given a b (all_empty none input) (topics_hold w' t' h') = absurd (t' none.topics)
one_answer given a b (all_empty none input) (offsets_hold w' t' f' h') = absurd (f' none.offsets)
one_answer given a b (all_empty none input) (all_empty none' input') = one_input given.input a b input input'
