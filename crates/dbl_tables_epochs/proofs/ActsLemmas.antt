-- Acts that commit some messages at once, and then open sessions with their changes: what is open after them, and what each session has
-- changed.
use Rattle.std.proofs.Common.{◌≡◌, ◌∙◌, ℕ, Bool, true, false, List, [], ◌∷◌, ◌++◌, map, refl, sym, ap, subst, append_assoc}
use Rattle.std.specs.Prelude.{◌&&◌, ◌||◌, not, if◌then◌else◌, bytes_eq}
use Rattle.std.specs.List.{list_any}
use Rattle.std.proofs.lemmas.List.{append-nil}
use Rattle.dbl_pgmsg.specs.declared.messages.Message.{Message}
use Rattle.dbl_model_table.proofs.Lists.{same_text, text_itself, or_none}
use Rattle.dbl_source_log.specs.declared.logged.LogTable.{LogTable}
use Rattle.dbl_source_log.specs.declared.logged.Logged.TheVariants.{Changes}
use Rattle.dbl_source_log.specs.TextRows.{no_text_rows, text_rows_with}
use Rattle.dbl_source_log.specs.RawChanges.{changes_from}
use Rattle.dbl_source_log.specs.Histories.{rows_of}
use Rattle.dbl_source_log.proofs.FitLogLemmas.{message_rows}
use Rattle.dbl_tables_rows.specs.Acts.{Accepted, is_open, open_in, messages_by, log_in}
use Rattle.dbl_tables_rows.specs.Acts.Accepted.{Began, Did, Committed}
use Rattle.dbl_tables_rows.specs.Seen.{committed_rows}
use Rattle.dbl_tables_laws.proofs.OpenLemmas.{open_listed}

-- ---- the changes of one session

-- The acts of a session's changes, after others.
abbrev pub did_onto : List ℕ → List Message → List Accepted → List Accepted
did_onto s [] acts = acts
did_onto s (m ∷ ms) acts = did_onto s ms (Did s m ∷ acts)

did_open : (s t : List ℕ) (ms : List Message) (acts : List Accepted) → is_open t (did_onto s ms acts) ≡ is_open t acts
did_open s t [] acts = refl
did_open s t (m ∷ ms) acts = did_open s t ms (Did s m ∷ acts)

did_log : (s : List ℕ) (ms : List Message) (acts : List Accepted) → log_in (did_onto s ms acts) ≡ log_in acts
did_log s [] acts = refl
did_log s (m ∷ ms) acts = did_log s ms (Did s m ∷ acts)

did_others : (s t : List ℕ) (ms : List Message) (acts : List Accepted) → bytes_eq s t ≡ false → messages_by t (did_onto s ms acts) ≡ messages_by t acts
did_others s t [] acts other = refl
did_others s t (m ∷ ms) acts other = did_others s t ms (Did s m ∷ acts) other
    ∙ ap (λ (b : Bool). if b then messages_by t acts ++ m ∷ [] else messages_by t acts) other

did_own : (s : List ℕ) (ms : List Message) (acts : List Accepted) → messages_by s (did_onto s ms acts) ≡ messages_by s acts ++ ms
did_own s [] acts = sym (append-nil (messages_by s acts))
did_own s (m ∷ ms) acts =
    did_own s ms (Did s m ∷ acts)
    ∙ (ap (λ (b : Bool). (if b then messages_by s acts ++ m ∷ [] else messages_by s acts) ++ ms) (text_itself s)
    ∙ append_assoc (messages_by s acts) (m ∷ []) ms)

-- ---- sessions

-- The acts of open sessions, each with its changes, after others.
abbrev pub sessions_onto : List (List ℕ) → (List ℕ → List Message) → List Accepted → List Accepted
sessions_onto [] messages acts = acts
sessions_onto (s ∷ names) messages acts = did_onto s (messages s) (Began s ∷ sessions_onto names messages acts)

-- Whether a session is among some.
abbrev pub is_among : List (List ℕ) → List ℕ → Bool
is_among names t = list_any (λ (o : List ℕ). bytes_eq o t) names

or_assoc : (a b c : Bool) → (a || (b || c)) ≡ ((a || b) || c)
or_assoc true b c = refl
or_assoc false b c = refl

module _ (messages : List ℕ → List Message) (acts : List Accepted) where
  sessions_open : (t : List ℕ) (names : List (List ℕ)) → is_open t (sessions_onto names messages acts) ≡ (is_among names t || is_open t acts)
  sessions_open t [] = refl
  sessions_open t (s ∷ names) =
      did_open s t (messages s) (Began s ∷ sessions_onto names messages acts)
      ∙ (ap (λ (b : Bool). bytes_eq s t || b) (sessions_open t names)
      ∙ or_assoc (bytes_eq s t) (is_among names t) (is_open t acts))

  sessions_messages : (t : List ℕ) (names : List (List ℕ))
      → messages_by t (sessions_onto names messages acts) ≡ (if is_among names t then messages t else messages_by t acts)
  sessions_messages t [] = refl
  sessions_messages t (s ∷ names) = by (bytes_eq s t) refl (sessions_messages t names)
    where
      by : (b : Bool) → bytes_eq s t ≡ b → messages_by t (sessions_onto names messages acts) ≡ (if is_among names t then messages t else messages_by t acts)
          → messages_by t (did_onto s (messages s) (Began s ∷ sessions_onto names messages acts))
          ≡ (if (b || is_among names t) then messages t else messages_by t acts)
      by true same later =
          let e : s ≡ t = same_text s t same in
          subst (λ (x : List ℕ). messages_by x (did_onto s (messages s) (Began s ∷ sessions_onto names messages acts)) ≡ messages x) e
          (did_own s (messages s) (Began s ∷ sessions_onto names messages acts)
          ∙ ap (λ (b : Bool). (if b then [] else messages_by s (sessions_onto names messages acts)) ++ messages s) (text_itself s))
      by false other later =
          did_others s t (messages s) (Began s ∷ sessions_onto names messages acts) other
          ∙ (ap (λ (b : Bool). if b then [] else messages_by t (sessions_onto names messages acts)) other ∙ later)

  sessions_log : (names : List (List ℕ)) → log_in (sessions_onto names messages acts) ≡ log_in acts
  sessions_log [] = refl
  sessions_log (s ∷ names) = did_log s (messages s) (Began s ∷ sessions_onto names messages acts) ∙ sessions_log names

-- ---- one commit

-- The acts of one commit of these messages, by a session without a name.
abbrev pub committed_once : List Message → List Accepted
committed_once ms = Committed [] ∷ did_onto [] ms (Began [] ∷ [])

once_open : (t : List ℕ) (ms : List Message) → is_open t (committed_once ms) ≡ false
once_open t ms = ap (λ (b : Bool). not (bytes_eq [] t) && b) (did_open [] t ms (Began [] ∷ [])) ∙ by (bytes_eq [] t)
  where
    by : (b : Bool) → (not b && (b || false)) ≡ false
    by true = refl
    by false = refl

once_messages : (t : List ℕ) (ms : List Message) → messages_by t (committed_once ms) ≡ []
once_messages t ms = by (bytes_eq [] t) refl
  where
    by : (b : Bool) → bytes_eq [] t ≡ b → (if b then [] else messages_by t (did_onto [] ms (Began [] ∷ []))) ≡ []
    by true same = refl
    by false other = did_others [] t ms (Began [] ∷ []) other ∙ ap (λ (b : Bool). if b then [] else messages_by t []) other

once_log : (ms : List Message) → log_in (committed_once ms) ≡ ms ∷ []
once_log ms =
    ap (λ (l : List (List Message)). l ++ messages_by [] (did_onto [] ms (Began [] ∷ [])) ∷ []) (did_log [] ms (Began [] ∷ []))
    ∙ ap (λ (l : List Message). l ∷ []) (did_own [] ms (Began [] ∷ []) ∙ ap (λ (b : Bool). (if b then [] else messages_by [] []) ++ ms) (text_itself []))

-- ---- both

-- The acts that commit these messages at once, and then open the sessions of other acts, each with its changes.
abbrev pub restarted : List Accepted → List Message → List Accepted
restarted past ms = sessions_onto (open_in past) (λ (s : List ℕ). messages_by s past) (committed_once ms)

module _ (past : List Accepted) (ms : List Message) where
  pub restarted_open : (t : List ℕ) → is_open t (restarted past ms) ≡ is_open t past
  restarted_open t =
      sessions_open (λ (s : List ℕ). messages_by s past) (committed_once ms) t (open_in past)
      ∙ (ap (λ (b : Bool). is_among (open_in past) t || b) (once_open t ms)
      ∙ (or_none (is_among (open_in past) t) ∙ sym (open_listed t past)))

  -- a session that isn't open has changed nothing
  pub restarted_messages : ((t : List ℕ) → is_open t past ≡ false → messages_by t past ≡ []) → (t : List ℕ)
      → messages_by t (restarted past ms) ≡ messages_by t past
  restarted_messages closed t =
      sessions_messages (λ (s : List ℕ). messages_by s past) (committed_once ms) t (open_in past)
      ∙ (ap (λ (b : Bool). if b then messages_by t past else messages_by t (committed_once ms)) (sym (open_listed t past))
      ∙ by (is_open t past) refl)
    where
      by : (b : Bool) → is_open t past ≡ b → (if b then messages_by t past else messages_by t (committed_once ms)) ≡ messages_by t past
      by true opened = refl
      by false none = once_messages t ms ∙ sym (closed t none)

  pub restarted_log : log_in (restarted past ms) ≡ ms ∷ []
  restarted_log = sessions_log (λ (s : List ℕ). messages_by s past) (committed_once ms) (open_in past) ∙ once_log ms

  -- committed is what the messages leave
  pub restarted_rows : (tables : List LogTable)
      → committed_rows tables (restarted past ms) ≡ text_rows_with tables (changes_from tables no_text_rows ms) no_text_rows
  restarted_rows tables = ap (λ (log : List (List Message)). rows_of tables (map Changes log)) restarted_log ∙ message_rows tables ms no_text_rows
