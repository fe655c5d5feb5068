-- The commits of a sound log are the serial run of the steps that it counts.
use Rattle.std.proofs.Common.{◌≡◌, ◌∙◌, ℕ, List, [], ◌∷◌, ◌++◌, refl, sym, ap, subst, arith, append_assoc}
use Rattle.std.proofs.lemmas.List.{append-nil, nil_from_length}
use Rattle.std.proofs.lemmas.List.Elements.{filter_map-append}
use Rattle.dbl_demo_wal.specs.declared.entry.Entry.{Entry}
use Rattle.dbl_demo_wal.specs.declared.entry.Entry.TheVariants.{Commits, Marks, Confirms}
use Rattle.dbl_demo_wal.specs.Workloads.{Workload, log_at}
use Rattle.dbl_demo_wal.specs.Sound.{committed_by, session_commits, steps_from, steps_in, HasInitialCommit, IsNextEntry, AreNext}
use Rattle.dbl_demo_wal.specs.SoundLaws.{SoundWalsAreSerial}

pub steps_from-append : (n : ℕ) (xs ys : List Entry) → steps_from n (xs ++ ys) ≡ steps_from (steps_from n xs) ys
steps_from-append n [] ys = refl
steps_from-append n (Commits steps messages ∷ xs) ys = steps_from-append steps xs ys
steps_from-append n (Marks steps value ∷ xs) ys = steps_from-append steps xs ys
steps_from-append n (Confirms upto ∷ xs) ys = steps_from-append n xs ys

pub committed-push : (before : List Entry) (e : Entry) → session_commits (before ++ e ∷ []) ≡ session_commits before ++ session_commits (e ∷ [])
committed-push before e = filter_map-append committed_by before (e ∷ [])

-- once the rows stand there, the commits are those of the steps that were counted
abbrev IsSerial : Workload → List Entry → Type 0
IsSerial w before = HasInitialCommit w before → session_commits before ≡ log_at w (steps_in before)

serial_next : (w : Workload) (before : List Entry) (e : Entry) → IsSerial w before → IsNextEntry w before e → IsSerial w (before ++ e ∷ [])
serial_next w before (Commits steps messages) serial next begun =
    committed-push before (Commits steps messages) ∙ sym next.is ∙ ap (log_at w) (sym (steps_from-append 0 before (Commits steps messages ∷ [])))
serial_next w before (Marks steps value) serial next begun =
    committed-push before (Marks steps value) ∙ append-nil (session_commits before) ∙ sym next.none_between ∙ ap (log_at w) (sym (steps_from-append 0 before (Marks steps value ∷ [])))
serial_next w before (Confirms upto) serial next begun =
    committed-push before (Confirms upto) ∙ append-nil (session_commits before) ∙ serial next.begun ∙ ap (log_at w) (sym (steps_from-append 0 before (Confirms upto ∷ [])))

serial_on : (w : Workload) (before entries : List Entry) → IsSerial w before → AreNext w before entries → IsSerial w (before ++ entries)
serial_on w before [] serial are = subst (IsSerial w) (sym (append-nil before)) serial
serial_on w before (e ∷ entries) serial are =
    subst (IsSerial w) (append_assoc before (e ∷ []) entries) (serial_on w (before ++ e ∷ []) entries (serial_next w before e serial are.0) are.1)

serial_first : (w : Workload) → IsSerial w []
serial_first w begun = sym (nil_from_length (log_at w 0) (omega (arith, begun)))

pub sound_serial : (w : Workload) (entries : List Entry) → AreNext w [] entries → HasInitialCommit w entries → session_commits entries ≡ log_at w (steps_in entries)
sound_serial w entries are begun = serial_on w [] entries (serial_first w) are begun

pub sound_wals_are_serial : SoundWalsAreSerial
sound_wals_are_serial bytes wal is = sound_serial wal.workload wal.entries is.are.sound.each is.are.sound.begun
