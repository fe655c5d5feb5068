-- When a record was made changes nothing of what a consumer has: records that are otherwise equal leave a log as aged, and its rows at the
-- same keys.
use Rattle.std.proofs.Common.{◌≡◌, ◌∙◌, inl, inr, ℕ, ℤ, ◌+◌, zero, suc, max, Bool, true, false, Option, Some, None, Contains, List, [], ◌∷◌, ◌++◌, take, map, flat_map, fold, refl, sym, ap, subst}
use Rattle.std.specs.Prelude.{IsSome, nat_lt, if◌then◌else◌}
use Rattle.std.specs.List.{AllByRecursion, AllZip}
use Rattle.std.specs.Str.{bytes_eq}
use Rattle.std.proofs.lemmas.List.Elements.{All-contains, All-from_recursion, Contains-append_left, Contains-append_right, Contains-append_cases, Contains-push}
use Rattle.dbl_record.specs.declared.record.Record.{Record}
use Rattle.dbl_record.specs.Acts.{reading_of, act}
use Rattle.dbl_record.specs.Consumers.{HeldCells, held_at, row_after, row_after_result}
use Rattle.dbl_record.specs.Places.{Place, place_of}
use Rattle.dbl_record.specs.Reading.{as_line}
use Rattle.dbl_model_table.specs.declared.identity.Identity.{Identity}
use Rattle.dbl_model_table.specs.declared.row.Key.{Key}
use Rattle.dbl_model_table.specs.declared.table.TableInfo.{TableInfo}
use Rattle.dbl_model_table.specs.declared.change.Commit.{Commit}
use Rattle.dbl_model_table.specs.Infos.{topic_of}
use Rattle.dbl_model_table.specs.Rows.{changes_of, moment_at}
use Rattle.dbl_consume_laws.specs.ModelHistory.Ranges.{IsCommitInRange, IsMomentInRange}
use Rattle.dbl_consume_laws.specs.ModelEvent.Events.{Content, Created, Updated, Deleted, Tombstone, Truncated, Notice, Event, is_nil, notices, numbered, events_of}
use Rattle.dbl_consume_laws.specs.ModelEvent.EventJson.{print, envelopes}
use Rattle.dbl_consume_laws.specs.Prints.{ReportsProgress}
use Rattle.dbl_consume_laws.specs.KnownKeys.{IsTold}
use Rattle.dbl_consume_laws.specs.Moments.{place_moment, span_end}
use Rattle.dbl_consume_laws.specs.Ages.{held_row, held_cell, source_cell, IsAgedCell}
use Rattle.dbl_consume_laws.proofs.Acts.{line_of_event, act_created, act_updated, act_deleted, act_tombstone, act_truncated}
use Rattle.dbl_consume_laws.proofs.AgeingCells.{aged_same}
use Rattle.dbl_consume_laws.proofs.CellEvents.{IsKeyed, IsKeyedNotice, all_keyed}
use Rattle.dbl_consume_laws.proofs.Events.{event_quiet}
use Rattle.dbl_consume_laws.proofs.Notices.{KeyFits, ContentFits, NoticeFits, commit_tells}
use Rattle.dbl_consume_courses.specs.Versions.{Versioned}
use Rattle.dbl_consume_courses.specs.Courses.{Course, course}
use Rattle.dbl_consume_courses.specs.Since.{since_after, since}
use Rattle.dbl_consume_courses.specs.AlteredTables.{course_changes, course_start, IsKnownIn, WasThereThrough, position_moment, version_moment, last_position, IsTableAged, IsAgedFrom}
use Rattle.dbl_faithful.specs.Agreements.{HasKeyedRows}
use Rattle.dbl_faithful.specs.ToldEvents.{tell, IsClearPrint}
use Rattle.dbl_faithful.proofs.Items.{zip_append}

-- ---- two records that do the same

-- they have one place, the second reports what the first does, and they do the same to each row
pub record IsLike (identity : Identity) (r s : Record) : Type 0 where
  pub place : place_of r ≡ place_of s
  pub told : (info : TableInfo) (through : Option Key) (done : Bool) → ReportsProgress identity info r through done → ReportsProgress identity info s through done
  pub same : (topic text : List ℕ) (row : Option HeldCells) → row_after identity.placeholder topic text row (reading_of (as_line r)) ≡ row_after identity.placeholder topic text row (reading_of (as_line s))

pub like_itself : (identity : Identity) (rs : List Record) → AllZip (IsLike identity) rs rs
like_itself identity [] = tt
like_itself identity (r ∷ rs) = (record { place = refl; told = λ info through done reports. reports; same = λ topic text row. refl }, like_itself identity rs)

pub like_more : (identity : Identity) (records rs ss : List Record) → AllZip (IsLike identity) rs ss → AllZip (IsLike identity) (records ++ rs) (records ++ ss)
like_more identity records rs ss like = zip_append (IsLike identity) records rs records ss (like_itself identity records) like

-- ---- what they leave

rows_alike : (identity : Identity) (topic text : List ℕ) (row : Option HeldCells) (rs ss : List Record) → AllZip (IsLike identity) rs ss
    → fold (row_after identity.placeholder topic text) row (map reading_of (map as_line rs)) ≡ fold (row_after identity.placeholder topic text) row (map reading_of (map as_line ss))
rows_alike identity topic text row [] [] like = refl
rows_alike identity topic text row [] (s ∷ ss) like = absurd like
rows_alike identity topic text row (r ∷ rs) [] like = absurd like
rows_alike identity topic text row (r ∷ rs) (s ∷ ss) like =
    ap (λ (h : Option HeldCells). fold (row_after identity.placeholder topic text) h (map reading_of (map as_line rs))) (like.0.same topic text row)
    ∙ rows_alike identity topic text (row_after identity.placeholder topic text row (reading_of (as_line s))) rs ss like.1

-- what goes by their places alone
places_alike : (identity : Identity) (f : ℕ → Place → ℕ) (far : ℕ) (rs ss : List Record) → AllZip (IsLike identity) rs ss
    → fold (λ (n : ℕ) (item : Record). f n (place_of item)) far rs ≡ fold (λ (n : ℕ) (item : Record). f n (place_of item)) far ss
places_alike identity f far [] [] like = refl
places_alike identity f far [] (s ∷ ss) like = absurd like
places_alike identity f far (r ∷ rs) [] like = absurd like
places_alike identity f far (r ∷ rs) (s ∷ ss) like =
    ap (λ (p : Place). fold (λ (n : ℕ) (item : Record). f n (place_of item)) (f far p) rs) like.0.place ∙ places_alike identity f (f far (place_of s)) rs ss like.1

since_alike : (identity : Identity) (start : ℕ) (kept other rs ss : List Record) → AllZip (IsLike identity) kept other → AllZip (IsLike identity) rs ss
    → AllZip (IsLike identity) (fold (since_after start) kept rs) (fold (since_after start) other ss)
since_alike identity start kept other [] [] before like = before
since_alike identity start kept other [] (s ∷ ss) before like = absurd like
since_alike identity start kept other (r ∷ rs) [] before like = absurd like
since_alike identity start kept other (r ∷ rs) (s ∷ ss) before like =
    since_alike identity start (since_after start kept r) (since_after start other s) rs ss
    (subst (λ (p : ℕ). AllZip (IsLike identity) (if nat_lt p start then [] else kept ++ r ∷ []) (since_after start other s)) (sym (ap (λ (p : Place). p.0) like.0.place)) (by (nat_lt s.position start))) like.1
  where
    by : (b : Bool) → AllZip (IsLike identity) (if b then [] else kept ++ r ∷ []) (if b then [] else other ++ s ∷ [])
    by true = tt
    by false = zip_append (IsLike identity) kept (r ∷ []) other (s ∷ []) before (like.0, tt)

like_at : (identity : Identity) (rs ss : List Record) (item : Record) → AllZip (IsLike identity) rs ss → Contains rs item → (other : Record) × Contains ss other × IsLike identity item other
like_at identity [] [] item like has = absurd (All-contains (λ (x : Record). ⊥) [] item (All-from_recursion (λ (x : Record). ⊥) [] tt) has)
like_at identity [] (s ∷ ss) item like has = absurd like
like_at identity (r ∷ rs) [] item like has = absurd like
like_at identity (r ∷ rs) (s ∷ ss) item like has = elim (Contains-append_cases (r ∷ []) rs item has) [
  | inl here ↦ (
      let same : item ≡ r = All-contains (λ (x : Record). x ≡ r) (r ∷ []) item (All-from_recursion (λ (x : Record). x ≡ r) (r ∷ []) (refl, tt)) here in
      (s, Contains-append_left (s ∷ []) ss s (Contains-push [] s), subst (λ (x : Record). IsLike identity x s) (sym same) like.0))
  | inr later ↦ (let rest = like_at identity rs ss item like.1 later in (rest.0, Contains-append_right (s ∷ []) ss rest.0 rest.1, rest.2))
]

told_alike : (identity : Identity) (infos : List TableInfo) (table : ℕ) (key : Key) (rs ss : List Record) → AllZip (IsLike identity) rs ss → IsTold identity infos rs table key → IsTold identity infos ss table key
told_alike identity infos table key rs ss like told =
    let other = like_at identity rs ss told.item like told.stands in
    record { info = told.info; captured = told.captured; item = other.0; stands = other.1; through = told.through; done = told.done; tells = other.2.told told.info told.through told.done told.tells; covers = told.covers }

-- ---- so logs of them are as aged, and have their rows at the same keys

module _ (identity : Identity) (rs ss : List Record) (like : AllZip (IsLike identity) rs ss) where
  pub row_like : (topic text : List ℕ) → held_row identity rs topic text ≡ held_row identity ss topic text
  row_like topic text = rows_alike identity topic text None rs ss like

  pub keyed_like : (infos : List TableInfo) → HasKeyedRows identity infos ss → HasKeyedRows identity infos rs
  keyed_like infos keyed = record { each = λ topic text cells is. keyed.each topic text cells (sym (row_like topic text) ∙ is) }

  module _ (c : Course) (versions : List Versioned) (position table : ℕ) where
    kept : AllZip (IsLike identity) (since c.start rs) (since c.start ss)
    kept = since_alike identity c.start [] [] rs ss tt like

    kept_row : (topic text : List ℕ) → held_row identity (since c.start rs) topic text ≡ held_row identity (since c.start ss) topic text
    kept_row topic text = rows_alike identity topic text None (since c.start rs) (since c.start ss) kept

    known : (to : ℕ) (key : Key) → IsKnownIn identity c rs to table key → IsKnownIn identity c ss to table key
    known to key (inl told) = inl (told_alike identity c.infos table key (since c.start rs) (since c.start ss) kept told)
    known to key (inr touched) = inr touched

    abbrev from : ℕ
    from = moment_at c.commits (max position c.start)

    abbrev end : List Record → ℕ
    end records = span_end c.infos c.commits (course_start c) (since c.start records) from

    same_end : end ss ≡ end rs
    same_end = ap (max from) (sym (places_alike identity (λ n place. max n (place_moment c.infos c.commits place)) (course_start c) (since c.start rs) (since c.start ss) kept))

    pub aged_like : IsTableAged identity c versions ss position table → IsTableAged identity c versions rs position table
    aged_like aged = record {
      own = record {
        each = λ topic text key column names. (
            let life : ℕ → Option (List ℕ) = source_cell c.infos (course_changes c) table key column in
            let held : held_cell identity (since c.start ss) topic text column ≡ held_cell identity (since c.start rs) topic text column = ap (λ (h : Option HeldCells). held_at h column) (sym (kept_row topic text)) in
            let old : IsAgedCell (IsKnownIn identity c ss (end rs) table key) life from (end rs) (held_cell identity (since c.start rs) topic text column) =
            subst (IsAgedCell (IsKnownIn identity c ss (end rs) table key) life from (end rs)) held
            (subst (λ (e : ℕ). IsAgedCell (IsKnownIn identity c ss e table key) life from e (held_cell identity (since c.start ss) topic text column)) same_end (aged.own.each topic text key column names)) in
            aged_same (IsKnownIn identity c ss (end rs) table key) (IsKnownIn identity c rs (end rs) table key) life life from (end rs) (held_cell identity (since c.start rs) topic text column)
            (λ i low. refl) (known (end rs) key) old);
      };
      same = record {
        each = λ topic text key column names is_known.
            ap (λ (h : Option HeldCells). held_at h column) (row_like topic text)
            ∙ (aged.same.each topic text key column names (known from key is_known) ∙ ap (λ (h : Option HeldCells). held_at h column) (sym (kept_row topic text)));
      };
      there = λ topic text key names some.
          subst (λ (e : ℕ). WasThereThrough versions (position_moment versions position) e table key)
          (sym (places_alike identity (λ n place. max n (version_moment versions place)) (position_moment versions position) rs ss like))
          (aged.there topic text key names (subst (λ (h : Option HeldCells). IsSome h) (row_like topic text) some));
    }

  pub aged_from_like : (infos : List TableInfo) (versions : List Versioned) (start position table : ℕ) → IsAgedFrom identity infos versions start ss position table → IsAgedFrom identity infos versions start rs position table
  aged_from_like infos versions start position table aged =
      subst (λ (q : ℕ). IsTableAged identity (course infos versions start table q) versions rs position table) (sym (places_alike identity (λ n place. max n place.0) position rs ss like))
      (aged_like (course infos versions start table (last_position position ss)) versions position table aged)

-- ---- the records of one event

module _ (identity : Identity) (commit : Commit) (a b : ℤ) (range : IsCommitInRange commit) (in_a : IsMomentInRange a) (in_b : IsMomentInRange b) where
  same_act : (info : TableInfo) (key : Option Key) (content : Content) → KeyFits key → ContentFits content → IsKeyed key content
      → act identity.placeholder (line_of_event identity commit a info key content) ≡ act identity.placeholder (line_of_event identity commit b info key content)
  same_act info (Some key) (Created row) k c keyed = act_created identity commit a range in_a info key row k c ∙ sym (act_created identity commit b range in_b info key row k c)
  same_act info (Some key) (Updated old cells) k c keyed = act_updated identity commit a range in_a info key old cells k c.0 c.1 ∙ sym (act_updated identity commit b range in_b info key old cells k c.0 c.1)
  same_act info (Some key) (Deleted old) k c keyed = act_deleted identity commit a range in_a info key old k c ∙ sym (act_deleted identity commit b range in_b info key old k c)
  same_act info (Some key) Tombstone k c keyed = act_tombstone identity commit a range in_a info key k ∙ sym (act_tombstone identity commit b range in_b info key k)
  same_act info (Some key) Truncated k c keyed = elim keyed [ ]
  same_act info None (Created row) k c keyed = elim keyed [ ]
  same_act info None (Updated old cells) k c keyed = elim keyed [ ]
  same_act info None (Deleted old) k c keyed = elim keyed [ ]
  same_act info None Tombstone k c keyed = elim keyed [ ]
  same_act info None Truncated k c keyed = act_truncated identity commit a range in_a info ∙ sym (act_truncated identity commit b range in_b info)

  times_alike : (e : Event) → NoticeFits e.notice → IsKeyedNotice e.notice → IsLike identity (print identity commit a e) (print identity commit b e)
  times_alike e fits keyed = record {
    place = refl;
    told = λ info through done reports. absurd (event_quiet identity commit a e info through done reports);
    same = λ topic text row.
        ap (λ r. if bytes_eq (topic_of identity e.notice.info) topic then row_after_result r text row else row) (same_act e.notice.info e.notice.key e.notice.content fits.key fits.content keyed);
  }

module _ (identity : Identity) (commit : Commit) (now : ℤ) (range : IsCommitInRange commit) (in_time : IsMomentInRange now) where
  likes : (position ordinal n : ℕ) (ns : List Notice) (rs : List Record) → AllByRecursion NoticeFits ns → AllByRecursion IsKeyedNotice ns
      → AllZip (IsClearPrint identity) (take n (map (tell commit) (numbered position ordinal ns))) rs → AllZip (IsLike identity) rs (take n (map (print identity commit now) (numbered position ordinal ns)))
  likes position ordinal zero ns [] fits keys zipped = tt
  likes position ordinal zero ns (r ∷ rs) fits keys zipped = absurd zipped
  likes position ordinal (suc n) [] [] fits keys zipped = tt
  likes position ordinal (suc n) [] (r ∷ rs) fits keys zipped = absurd zipped
  likes position ordinal (suc n) (x ∷ ns) [] fits keys zipped = absurd zipped
  likes position ordinal (suc n) (x ∷ ns) (r ∷ rs) fits keys zipped =
      let e : Event = record { notice = x; position = position; ordinal = ordinal; last = is_nil ns } in (
        subst (λ (s : Record). IsLike identity s (print identity commit now e)) (sym zipped.0.is.printed) (times_alike identity commit zipped.0.is.now now range zipped.0.is.in_range in_time e fits.0 keys.0),
        likes position (ordinal + 1) n ns rs fits.1 keys.1 zipped.1,
      )

-- records of the events of a commit, each made at its own time, are like those made at one time
pub prints_like : (identity : Identity) (infos : List TableInfo) (commit : Commit) (now : ℤ) (n : ℕ) (rs : List Record) → IsCommitInRange commit → IsMomentInRange now
    → AllZip (IsClearPrint identity) (take n (map (tell commit) (events_of infos commit))) rs → AllZip (IsLike identity) rs (take n (envelopes identity infos commit now))
prints_like identity infos commit now n rs range in_time zipped =
    likes identity commit now range in_time commit.lsn.0 0 n (flat_map (notices infos) (changes_of commit)) rs (commit_tells infos commit range).fit (all_keyed infos (changes_of commit)) zipped
