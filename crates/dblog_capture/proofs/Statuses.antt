-- The statuses of `gen --run`.
use Rattle.std.proofs.Common.{◌≡◌, ◌≢◌, inl, inr, ◌∙◌, ℕ, Option, List, refl, sym}
use Rattle.dblog_init.specs.declared.error.InitError.{InitError}
use Rattle.dblog_init.specs.declared.error.InitError.TheVariants as init
use Rattle.dblog_init.specs.declared.error.Store.{Store}
use Rattle.dblog_init.specs.declared.error.Store.TheVariants as store
use Rattle.dbl_lines.specs.declared.status.Status.{Status}
use Rattle.dbl_lines.specs.declared.status.Status.TheVariants.{Done, StdinFailed, InvalidInput}
use Rattle.dbl_lines.specs.declared.run_error.RunError.TheVariants.{Memory}
use Rattle.dbl_lines.specs.Says.{IsCutShort, Says}
use Rattle.dbl_lines.proofs.SayLemmas.{cut_other}
use Rattle.dblog_capture_text.specs.Ends.{store_status}
use Rattle.dblog_capture.proofs.SessionLemmas.{session_no_input}
use Rattle.dblog_capture_text.specs.InitErrors.{SaysInit, init_status}
use Rattle.dblog_capture_text.proofs.InitStatuses.{failed_error, no_zero, said_status, store_whole}
use Rattle.dblog_capture.specs.Generated.{IsGeneratedStatus}

cut_known : (status : Status) → IsCutShort status → IsGeneratedStatus status
cut_known status cut = inr (inr (inr (inr (inr (inr (inr (inr (inr (inr cut)))))))))

own_known : (e : InitError) (status : Status) → e ≢ init.InputFailed → status ≡ init_status e → IsGeneratedStatus status
own_known (init.Failed store.Wal) status other is = inr (inr (inr (inr (inr (inr (inr (inr (inl is))))))))
own_known (init.Failed store.Topics) status other is = inr (inr (inr (inr (inr (inr (inr (inr (inr (inl (inl is))))))))))
own_known (init.Failed store.Offsets) status other is = inr (inr (inr (inr (inr (inr (inr (inr (inr (inl (inr (inl is)))))))))))
own_known (init.NotEmpty held) status other is = inr (inr (inr (inr (inr (inr (inl is))))))
own_known init.InputFailed status other is = absurd (other refl)
own_known init.InputTooLong status other is = inl is
own_known (init.Script e) status other is = inl is
own_known (init.Model e) status other is = inr (inr (inr (inr (inr (inl is)))))
own_known init.Memory status other is = cut_known status (inr is)

pub stopped_known : (e : InitError) (status : Status) (before after : Option (List ℕ)) → e ≢ init.InputFailed → SaysInit e status before after → IsGeneratedStatus status
stopped_known e status before after other says = elim (said_status e status before after says) [ inl is ↦ own_known e status other is | inr cut ↦ cut_known status cut ]

-- a run out of memory before it began says what `init` says of that
pub starved_known : (status : Status) (before after : Option (List ℕ)) → Says Memory status before after → IsGeneratedStatus status
starved_known status before after says = stopped_known init.Memory status before after (λ is. (let t = is in cc)) says

pub no_input : (status : Status) → IsGeneratedStatus status → status ≢ StdinFailed
no_input status (inl is) same = let wrong : InvalidInput ≡ StdinFailed = sym is ∙ same in cc
no_input status (inr known) same = session_no_input status known same

pub stopped_no_zero : (e : InitError) (status : Status) (before after : Option (List ℕ)) → SaysInit e status before after → status ≡ Done → ⊥
stopped_no_zero e status before after says zero =
    elim (said_status e status before after says) [ inl is ↦ no_zero e (sym is ∙ zero) | inr cut ↦ cut_other Done status (λ e. cc, λ e. cc) cut zero ]

pub stopped_failed : (made : Store) (e : InitError) (status : Status) (before after : Option (List ℕ)) → SaysInit e status before after → status ≡ store_status made → e ≡ init.Failed made
stopped_failed made e status before after says same =
    elim (said_status e status before after says) [ inl is ↦ failed_error made e (sym is ∙ same) | inr cut ↦ absurd (store_whole made status same cut) ]
