use Rattle.std.proofs.Common.{◌≡◌, ◌∙◌, ◌⊎◌, inl, inr, Err, List, ap, subst}
use Rattle.dbl_demo.specs.DemoLaws.Made.{IsFreshWal}
use Rattle.dblog_init.specs.declared.error.Store.TheVariants.{Wal, Topics, Offsets}
use Rattle.dblog_init.specs.Answers.{AnswersInput, AreEmpty, IsExternalInitEnd}
use Rattle.dblog_init.specs.Disks.{HasStoredBytes, EndsBeforeWriting}
use Rattle.dblog_init.specs.Fresh.{IsEmptyLog, IsEmptyStore}
use Rattle.std.specs.Prelude.{OnOk}
use Rattle.dblog_init.proofs.DiskLemmas.{asked_leaves}
use Rattle.dblog_init.proofs.EndLemmas.{asked_at, asked_end, empty_end, input_answers, input_before, input_disk, input_failed, input_holds, input_kind, input_tells, leaves_at, leaves_end, made_end, make_answers, make_before, make_holds, make_input, make_kind, none_held, short_read, some_held, held, held_end, told_in, told_of, turn_input, turn_kind, turn_tells, turn_told}
use Rattle.dblog_init.proofs.initializing.init.Goals as goal

-- ---- a disk failed, or isn't empty

pub returns-in-Err-clause-told : goal.returns-in-Err-clause-told
returns-in-Err-clause-told g c = λ given i w t f. c.in-Err.ensures.first given w t f

pub returns-in-Err-clause-input_told : goal.returns-in-Err-clause-input_told
returns-in-Err-clause-input_told g c = λ bytes told. turn_told c.in-Err.error c.in-Err.ensures.kinds bytes

pub returns-in-Err-clause-kinds : goal.returns-in-Err-clause-kinds
returns-in-Err-clause-kinds g c = turn_kind c.in-Err.error c.in-Err.ensures.kinds

pub returns-in-Err-clause-whole : goal.returns-in-Err-clause-whole
returns-in-Err-clause-whole g c = λ bytes told tells. absurd (turn_tells c.in-Err.error c.in-Err.ensures.kinds tells)

pub returns-in-Err-clause-unwritten : goal.returns-in-Err-clause-unwritten
returns-in-Err-clause-unwritten g c = λ held. (c.in-Err.ensures.wal.asked, (c.in-Err.ensures.topics.asked, c.in-Err.ensures.offsets.asked))

pub returns-in-Err-clause-input_failed : goal.returns-in-Err-clause-input_failed
returns-in-Err-clause-input_failed g c = λ is. absurd (turn_input c.in-Err.error c.in-Err.ensures.kinds (let t = is in cc))

pub returns-in-Err-clause-wal_holds : goal.returns-in-Err-clause-wal_holds
returns-in-Err-clause-wal_holds g c = λ bytes told is. c.in-Err.ensures.wal.holds bytes told is

pub returns-in-Err-clause-wal_asked : goal.returns-in-Err-clause-wal_asked
returns-in-Err-clause-wal_asked g c = λ unwritten. c.in-Err.ensures.wal.asked

pub returns-in-Err-clause-wal_leaves : goal.returns-in-Err-clause-wal_leaves
returns-in-Err-clause-wal_leaves g c = asked_leaves g.W.Disk Wal _ c.args.disks.wal _ c.in-Err.ensures.wal.asked

pub returns-in-Err-clause-topics_hold : goal.returns-in-Err-clause-topics_hold
returns-in-Err-clause-topics_hold g c = λ bytes told is. c.in-Err.ensures.topics.holds bytes told is

pub returns-in-Err-clause-topics_asked : goal.returns-in-Err-clause-topics_asked
returns-in-Err-clause-topics_asked g c = λ unwritten. c.in-Err.ensures.topics.asked

pub returns-in-Err-clause-topics_leaves : goal.returns-in-Err-clause-topics_leaves
returns-in-Err-clause-topics_leaves g c = asked_leaves g.T.Disk Topics _ c.args.disks.topics _ c.in-Err.ensures.topics.asked

pub returns-in-Err-clause-offsets_hold : goal.returns-in-Err-clause-offsets_hold
returns-in-Err-clause-offsets_hold g c = λ bytes told is. c.in-Err.ensures.offsets.holds bytes told is

pub returns-in-Err-clause-offsets_asked : goal.returns-in-Err-clause-offsets_asked
returns-in-Err-clause-offsets_asked g c = λ unwritten. c.in-Err.ensures.offsets.asked

pub returns-in-Err-clause-offsets_leaves : goal.returns-in-Err-clause-offsets_leaves
returns-in-Err-clause-offsets_leaves g c = asked_leaves g.F.Disk Offsets _ c.args.disks.offsets _ c.in-Err.ensures.offsets.asked

-- ---- the input couldn't be read

pub returns-in-Err-read_all-clause-told : goal.returns-in-Err-read_all-clause-told
returns-in-Err-read_all-clause-told g c = λ given i w t f.
    let empty : AreEmpty given = record { wal = c.in-Ok.ensures.wal.empty given.wal w; topics = c.in-Ok.ensures.topics.empty given.topics t; offsets = c.in-Ok.ensures.offsets.empty given.offsets f } in
    told_in given _ empty (input_answers c.in-Err-read_all.error c.from.result c.from.ensures given.input (λ is. c.read_all.ensures.too_long given.input i (c.in-Err-read_all.is ∙ ap (λ x. Err x) is)))

pub returns-in-Err-read_all-clause-input_told : goal.returns-in-Err-read_all-clause-input_told
returns-in-Err-read_all-clause-input_told g c = λ bytes told.
    told_of bytes _ (input_answers c.in-Err-read_all.error c.from.result c.from.ensures bytes (λ is. c.read_all.ensures.too_long bytes told (c.in-Err-read_all.is ∙ ap (λ x. Err x) is)))

pub returns-in-Err-read_all-clause-kinds : goal.returns-in-Err-read_all-clause-kinds
returns-in-Err-read_all-clause-kinds g c = input_kind c.in-Err-read_all.error c.from.result c.from.ensures

pub returns-in-Err-read_all-clause-whole : goal.returns-in-Err-read_all-clause-whole
returns-in-Err-read_all-clause-whole g c = λ bytes told tells. absurd (input_tells c.in-Err-read_all.error c.from.result c.from.ensures tells)

pub returns-in-Err-read_all-clause-unread : goal.returns-in-Err-read_all-clause-unread
returns-in-Err-read_all-clause-unread g c = λ before. absurd (input_before c.in-Err-read_all.error c.from.result c.from.ensures before)

pub returns-in-Err-read_all-clause-full_unread : goal.returns-in-Err-read_all-clause-full_unread
returns-in-Err-read_all-clause-full_unread g c = λ held.
    absurd (some_held (none_held g.W.Disk Wal c.args.disks.wal _ c.in-Ok.ensures.wal) (none_held g.T.Disk Topics c.args.disks.topics _ c.in-Ok.ensures.topics)
    (none_held g.F.Disk Offsets c.args.disks.offsets _ c.in-Ok.ensures.offsets) held)

pub returns-in-Err-read_all-clause-topics_stay : goal.returns-in-Err-read_all-clause-topics_stay
returns-in-Err-read_all-clause-topics_stay g c = λ is. absurd (input_holds c.in-Err-read_all.error c.from.result c.from.ensures Wal (let t = is in cc))

pub returns-in-Err-read_all-clause-offsets_stay : goal.returns-in-Err-read_all-clause-offsets_stay
returns-in-Err-read_all-clause-offsets_stay g c = λ is. absurd (input_before c.in-Err-read_all.error c.from.result c.from.ensures (held c.from.result is))

pub returns-in-Err-read_all-clause-input_failed : goal.returns-in-Err-read_all-clause-input_failed
returns-in-Err-read_all-clause-input_failed g c = λ is. c.read_all.ensures.cause.cause (c.in-Err-read_all.is ∙ ap (λ x. Err x) (input_failed c.in-Err-read_all.error c.from.result c.from.ensures (let t = is in cc)))

pub returns-in-Err-read_all-clause-unwritten : goal.returns-in-Err-read_all-clause-unwritten
returns-in-Err-read_all-clause-unwritten g c = λ held. (asked_at g.W.Disk Wal c.args.disks.wal _ c.from.result (input_disk c.in-Err-read_all.error c.from.result c.from.ensures Wal) c.in-Ok.ensures.wal, (asked_at g.T.Disk Topics c.args.disks.topics _ c.from.result (input_disk c.in-Err-read_all.error c.from.result c.from.ensures Topics) c.in-Ok.ensures.topics, asked_at g.F.Disk Offsets c.args.disks.offsets _ c.from.result (input_disk c.in-Err-read_all.error c.from.result c.from.ensures Offsets) c.in-Ok.ensures.offsets))

pub returns-in-Err-read_all-clause-wal_holds : goal.returns-in-Err-read_all-clause-wal_holds
returns-in-Err-read_all-clause-wal_holds g c = λ bytes told is. absurd (input_holds c.in-Err-read_all.error c.from.result c.from.ensures Wal (let t = is in cc))

pub returns-in-Err-read_all-clause-wal_asked : goal.returns-in-Err-read_all-clause-wal_asked
returns-in-Err-read_all-clause-wal_asked g c = λ unwritten. asked_at g.W.Disk Wal c.args.disks.wal _ c.from.result (input_disk c.in-Err-read_all.error c.from.result c.from.ensures Wal) c.in-Ok.ensures.wal

pub returns-in-Err-read_all-clause-wal_leaves : goal.returns-in-Err-read_all-clause-wal_leaves
returns-in-Err-read_all-clause-wal_leaves g c = leaves_at g.W.Disk Wal c.args.disks.wal _ c.from.result (input_disk c.in-Err-read_all.error c.from.result c.from.ensures Wal) c.in-Ok.ensures.wal

pub returns-in-Err-read_all-clause-topics_hold : goal.returns-in-Err-read_all-clause-topics_hold
returns-in-Err-read_all-clause-topics_hold g c = λ bytes told is. absurd (input_holds c.in-Err-read_all.error c.from.result c.from.ensures Topics (let t = is in cc))

pub returns-in-Err-read_all-clause-topics_asked : goal.returns-in-Err-read_all-clause-topics_asked
returns-in-Err-read_all-clause-topics_asked g c = λ unwritten. asked_at g.T.Disk Topics c.args.disks.topics _ c.from.result (input_disk c.in-Err-read_all.error c.from.result c.from.ensures Topics) c.in-Ok.ensures.topics

pub returns-in-Err-read_all-clause-topics_leaves : goal.returns-in-Err-read_all-clause-topics_leaves
returns-in-Err-read_all-clause-topics_leaves g c = leaves_at g.T.Disk Topics c.args.disks.topics _ c.from.result (input_disk c.in-Err-read_all.error c.from.result c.from.ensures Topics) c.in-Ok.ensures.topics

pub returns-in-Err-read_all-clause-offsets_hold : goal.returns-in-Err-read_all-clause-offsets_hold
returns-in-Err-read_all-clause-offsets_hold g c = λ bytes told is. absurd (input_holds c.in-Err-read_all.error c.from.result c.from.ensures Offsets (let t = is in cc))

pub returns-in-Err-read_all-clause-offsets_asked : goal.returns-in-Err-read_all-clause-offsets_asked
returns-in-Err-read_all-clause-offsets_asked g c = λ unwritten. asked_at g.F.Disk Offsets c.args.disks.offsets _ c.from.result (input_disk c.in-Err-read_all.error c.from.result c.from.ensures Offsets) c.in-Ok.ensures.offsets

pub returns-in-Err-read_all-clause-offsets_leaves : goal.returns-in-Err-read_all-clause-offsets_leaves
returns-in-Err-read_all-clause-offsets_leaves g c = leaves_at g.F.Disk Offsets c.args.disks.offsets _ c.from.result (input_disk c.in-Err-read_all.error c.from.result c.from.ensures Offsets) c.in-Ok.ensures.offsets

-- ---- the stores

pub returns-in-Ok-read_all-clause-told : goal.returns-in-Ok-read_all-clause-told
returns-in-Ok-read_all-clause-told g c = λ given i w t f.
    let empty : AreEmpty given = record { wal = c.in-Ok.ensures.wal.empty given.wal w; topics = c.in-Ok.ensures.topics.empty given.topics t; offsets = c.in-Ok.ensures.offsets.empty given.offsets f } in
    let same : c.as_slice.result.now ≡ given.input = c.as_slice.ensures.value ∙ c.items.ensures ∙ c.in-Ok-read_all.ensures.all given.input i in
    told_in given c.make_all.result.end empty (subst (λ (l : List _). AnswersInput l c.make_all.result.end ⊎ IsExternalInitEnd c.make_all.result.end) same (make_answers c.as_slice.result.now c.make_all.result.end (short_read _ _ (c.as_slice.ensures.value ∙ c.items.ensures) c.in-Ok-read_all.ensures.within) c.make_all.ensures.refused c.make_all.ensures.workload))

pub returns-in-Ok-read_all-clause-input_told : goal.returns-in-Ok-read_all-clause-input_told
returns-in-Ok-read_all-clause-input_told g c = λ bytes told.
    let same : c.as_slice.result.now ≡ bytes = c.as_slice.ensures.value ∙ c.items.ensures ∙ c.in-Ok-read_all.ensures.all bytes told in
    told_of bytes c.make_all.result.end (subst (λ (l : List _). AnswersInput l c.make_all.result.end ⊎ IsExternalInitEnd c.make_all.result.end) same (make_answers c.as_slice.result.now c.make_all.result.end (short_read _ _ (c.as_slice.ensures.value ∙ c.items.ensures) c.in-Ok-read_all.ensures.within) c.make_all.ensures.refused c.make_all.ensures.workload))

pub returns-in-Ok-read_all-clause-kinds : goal.returns-in-Ok-read_all-clause-kinds
returns-in-Ok-read_all-clause-kinds g c = make_kind c.as_slice.result.now c.make_all.result.end c.make_all.ensures.refused

pub returns-in-Ok-read_all-clause-whole : goal.returns-in-Ok-read_all-clause-whole
returns-in-Ok-read_all-clause-whole g c = λ bytes told tells. c.in-Ok-read_all.ensures.end bytes told

pub returns-in-Ok-read_all-clause-unread : goal.returns-in-Ok-read_all-clause-unread
returns-in-Ok-read_all-clause-unread g c = λ before. absurd (make_before c.as_slice.result.now c.make_all.result.end c.make_all.ensures.refused before)

pub returns-in-Ok-read_all-clause-full_unread : goal.returns-in-Ok-read_all-clause-full_unread
returns-in-Ok-read_all-clause-full_unread g c = λ held.
    absurd (some_held (none_held g.W.Disk Wal c.args.disks.wal _ c.in-Ok.ensures.wal) (none_held g.T.Disk Topics c.args.disks.topics _ c.in-Ok.ensures.topics)
    (none_held g.F.Disk Offsets c.args.disks.offsets _ c.in-Ok.ensures.offsets) held)

pub returns-in-Ok-read_all-clause-topics_stay : goal.returns-in-Ok-read_all-clause-topics_stay
returns-in-Ok-read_all-clause-topics_stay g c = λ is. absurd (make_holds c.as_slice.result.now c.make_all.result.end Wal c.make_all.ensures.refused is)

pub returns-in-Ok-read_all-clause-offsets_stay : goal.returns-in-Ok-read_all-clause-offsets_stay
returns-in-Ok-read_all-clause-offsets_stay g c = λ is. absurd (make_before c.as_slice.result.now c.make_all.result.end c.make_all.ensures.refused (held_end c.make_all.result.end is))

pub returns-in-Ok-read_all-clause-input_failed : goal.returns-in-Ok-read_all-clause-input_failed
returns-in-Ok-read_all-clause-input_failed g c = λ is. absurd (make_input c.as_slice.result.now c.make_all.result.end c.make_all.ensures.refused is)

pub returns-in-Ok-read_all-clause-unwritten : goal.returns-in-Ok-read_all-clause-unwritten
returns-in-Ok-read_all-clause-unwritten g c = λ held. absurd (some_held (none_held g.W.Disk Wal c.args.disks.wal _ c.in-Ok.ensures.wal) (none_held g.T.Disk Topics c.args.disks.topics _ c.in-Ok.ensures.topics) (none_held g.F.Disk Offsets c.args.disks.offsets _ c.in-Ok.ensures.offsets) held)

pub returns-in-Ok-read_all-clause-wal_made : goal.returns-in-Ok-read_all-clause-wal_made
returns-in-Ok-read_all-clause-wal_made g c = λ bytes before told was.
    let same : c.as_slice.result.now ≡ bytes = c.as_slice.ensures.value ∙ c.items.ensures ∙ c.in-Ok-read_all.ensures.all bytes told in
    subst (λ (l : List _). OnOk c.make_all.result.end (HasStoredBytes g.W.Disk (IsFreshWal l) c.make_all.result.disks.wal)) same
    (made_end g.W.Disk Wal c.args.disks.wal _ (IsFreshWal c.as_slice.result.now) c.make_all.result.end _ c.in-Ok.ensures.wal c.make_all.ensures.wal before was)

pub returns-in-Ok-read_all-clause-wal_empty : goal.returns-in-Ok-read_all-clause-wal_empty
returns-in-Ok-read_all-clause-wal_empty g c = λ bytes told. empty_end g.W.Disk Wal c.args.disks.wal _ (IsFreshWal c.as_slice.result.now) c.make_all.result.end _ c.in-Ok.ensures.wal c.make_all.ensures.wal bytes told

pub returns-in-Ok-read_all-clause-wal_holds : goal.returns-in-Ok-read_all-clause-wal_holds
returns-in-Ok-read_all-clause-wal_holds g c = λ bytes told is. absurd (make_holds c.as_slice.result.now c.make_all.result.end Wal c.make_all.ensures.refused is)

pub returns-in-Ok-read_all-clause-wal_asked : goal.returns-in-Ok-read_all-clause-wal_asked
returns-in-Ok-read_all-clause-wal_asked g c = λ unwritten. asked_end g.W.Disk Wal c.args.disks.wal _ (IsFreshWal c.as_slice.result.now) c.make_all.result.end _ c.in-Ok.ensures.wal c.make_all.ensures.wal (λ un is. subst (EndsBeforeWriting Wal) is un) unwritten

pub returns-in-Ok-read_all-clause-wal_leaves : goal.returns-in-Ok-read_all-clause-wal_leaves
returns-in-Ok-read_all-clause-wal_leaves g c = leaves_end g.W.Disk Wal c.args.disks.wal _ (IsFreshWal c.as_slice.result.now) c.make_all.result.end _ c.in-Ok.ensures.wal c.make_all.ensures.wal

pub returns-in-Ok-read_all-clause-topics_empty : goal.returns-in-Ok-read_all-clause-topics_empty
returns-in-Ok-read_all-clause-topics_empty g c = λ bytes told. empty_end g.T.Disk Topics c.args.disks.topics _ IsEmptyLog c.make_all.result.end _ c.in-Ok.ensures.topics c.make_all.ensures.topics bytes told

pub returns-in-Ok-read_all-clause-topics_hold : goal.returns-in-Ok-read_all-clause-topics_hold
returns-in-Ok-read_all-clause-topics_hold g c = λ bytes told is. absurd (make_holds c.as_slice.result.now c.make_all.result.end Topics c.make_all.ensures.refused is)

pub returns-in-Ok-read_all-clause-topics_made : goal.returns-in-Ok-read_all-clause-topics_made
returns-in-Ok-read_all-clause-topics_made g c = λ before told. made_end g.T.Disk Topics c.args.disks.topics _ IsEmptyLog c.make_all.result.end _ c.in-Ok.ensures.topics c.make_all.ensures.topics before told

pub returns-in-Ok-read_all-clause-topics_asked : goal.returns-in-Ok-read_all-clause-topics_asked
returns-in-Ok-read_all-clause-topics_asked g c = λ unwritten. asked_end g.T.Disk Topics c.args.disks.topics _ IsEmptyLog c.make_all.result.end _ c.in-Ok.ensures.topics c.make_all.ensures.topics (λ un is. subst (EndsBeforeWriting Topics) is un) unwritten

pub returns-in-Ok-read_all-clause-topics_leaves : goal.returns-in-Ok-read_all-clause-topics_leaves
returns-in-Ok-read_all-clause-topics_leaves g c = leaves_end g.T.Disk Topics c.args.disks.topics _ IsEmptyLog c.make_all.result.end _ c.in-Ok.ensures.topics c.make_all.ensures.topics

pub returns-in-Ok-read_all-clause-offsets_empty : goal.returns-in-Ok-read_all-clause-offsets_empty
returns-in-Ok-read_all-clause-offsets_empty g c = λ bytes told. empty_end g.F.Disk Offsets c.args.disks.offsets _ IsEmptyStore c.make_all.result.end _ c.in-Ok.ensures.offsets c.make_all.ensures.offsets bytes told

pub returns-in-Ok-read_all-clause-offsets_hold : goal.returns-in-Ok-read_all-clause-offsets_hold
returns-in-Ok-read_all-clause-offsets_hold g c = λ bytes told is. absurd (make_holds c.as_slice.result.now c.make_all.result.end Offsets c.make_all.ensures.refused is)

pub returns-in-Ok-read_all-clause-offsets_made : goal.returns-in-Ok-read_all-clause-offsets_made
returns-in-Ok-read_all-clause-offsets_made g c = λ before told. made_end g.F.Disk Offsets c.args.disks.offsets _ IsEmptyStore c.make_all.result.end _ c.in-Ok.ensures.offsets c.make_all.ensures.offsets before told

pub returns-in-Ok-read_all-clause-offsets_asked : goal.returns-in-Ok-read_all-clause-offsets_asked
returns-in-Ok-read_all-clause-offsets_asked g c = λ unwritten. asked_end g.F.Disk Offsets c.args.disks.offsets _ IsEmptyStore c.make_all.result.end _ c.in-Ok.ensures.offsets c.make_all.ensures.offsets (λ un is. subst (EndsBeforeWriting Offsets) is un) unwritten

pub returns-in-Ok-read_all-clause-offsets_leaves : goal.returns-in-Ok-read_all-clause-offsets_leaves
returns-in-Ok-read_all-clause-offsets_leaves g c = leaves_end g.F.Disk Offsets c.args.disks.offsets _ IsEmptyStore c.make_all.result.end _ c.in-Ok.ensures.offsets c.make_all.ensures.offsets

-- ---- the offset's disk failed

pub returns-in-Err-clause-torn : goal.returns-in-Err-clause-torn
returns-in-Err-clause-torn g c = λ bytes told w t is. inl c.in-Err.ensures.offsets.asked

pub returns-in-Err-read_all-clause-torn : goal.returns-in-Err-read_all-clause-torn
returns-in-Err-read_all-clause-torn g c = λ bytes told w t is. absurd (input_disk c.in-Err-read_all.error c.from.result c.from.ensures Offsets (let e = is in cc))

pub returns-in-Ok-read_all-clause-torn : goal.returns-in-Ok-read_all-clause-torn
returns-in-Ok-read_all-clause-torn g c = λ bytes told w t is.
    let same : c.as_slice.result.now ≡ bytes = c.as_slice.ensures.value ∙ c.items.ensures ∙ c.in-Ok-read_all.ensures.all bytes told in
    let torn = c.make_all.ensures.torn (c.in-Ok.ensures.wal.asked.keeps.same ∙ w) (c.in-Ok.ensures.topics.asked.keeps.same ∙ t) is in
    inr (record {
      wal_made = subst (λ (l : List _). HasStoredBytes g.W.Disk (IsFreshWal l) c.make_all.result.disks.wal) same torn.wal_made;
      topics_made = torn.topics_made;
      offsets_torn = λ crashed may. (let before = torn.offsets_torn crashed may in (before.0, c.in-Ok.ensures.offsets.asked.keeps.crash before.0 before.1, before.2));
    })
