-- Relations of captured tables in other columns, and the message after them.
use Rattle.std.proofs.Common.{◌≡◌, ◌⊎◌, inl, inr, ◌∙◌, ℕ, Bool, true, false, not, ◌||◌, ◌&&◌, Option, Some, None, List, [], ◌∷◌, map, refl, sym, ap, ap₂, subst}
use Rattle.std.specs.Prelude.{if◌then◌else◌, is_some, slice_get, slice_set}
use Rattle.dbl_base.specs.declared.lsn.Lsn.{Lsn}
use Rattle.dbl_pgmsg.specs.declared.messages.Message.{Message}
use Rattle.dbl_pgmsg.specs.declared.messages.Message.TheVariants as says
use Rattle.dbl_pgmsg.specs.declared.messages.RelationColumn.{RelationColumn}
use Rattle.dbl_model_table.specs.declared.table.Column.{Column}
use Rattle.dbl_model_table.specs.declared.table.RawTable.{RawTable}
use Rattle.dbl_model_table.specs.declared.table.TableInfo.{TableInfo}
use Rattle.dbl_model_table.specs.declared.table.TableName.{TableName}
use Rattle.dbl_model_table.specs.declared.change.Change.{Change}
use Rattle.dbl_model_table.specs.declared.change.Commit.{Commit}
use Rattle.dbl_model_table.specs.declared.error.ModelError.{ModelError}
use Rattle.dbl_model_table.specs.Made.{table_fault, place_of}
use Rattle.dbl_model_table.specs.Tables.{is_watermark, is_table, column_names}
use Rattle.dbl_model_table.specs.Infos.{raw_column, key_names, IsInfoOf, number_of}
use Rattle.dbl_model_table.proofs.Capturable.{places_again}
use Rattle.dbl_model_table.proofs.InfoLemmas.{distinct_columns, typed_columns, places_within, info_one}
use Rattle.dbl_model_history.specs.InForce.{captured_column, places_of, table_or}
use Rattle.dbl_model_history.proofs.InForceLemmas.{columns_again, kept}
use Rattle.dbl_model_commit.specs.declared.message_parts.Target.TheVariants.{Watermark, Captured, Passed}
use Rattle.dbl_model_commit.specs.declared.piece.Piece.{Piece}
use Rattle.dbl_model_commit.specs.declared.txn_error.TxnError.{TxnError}
use Rattle.dbl_model_commit.specs.declared.txn_error.TxnError.TheVariants as errors
use Rattle.dbl_model_commit.specs.Past.{schema_of, table_named}
use Rattle.dbl_model_commit.specs.Stated.{captured_at, target, same_columns, open_changes, first_of, ended_commit, transaction_fault}
use Rattle.dbl_model_commit.specs.Pieces.{changes_so_far, IsPieceOf}
use Rattle.dbl_model_commit.specs.Shapes.{columns_in, entry_in, shaped_by, keep_key, are_unfit, has_other_oid, changes_table, columns_refused, target_refused, shape_fault, IsOpenStated}
use Rattle.dbl_model_commit.proofs.ShapeLemmas.{read_alike}
use Rattle.dbl_model_commit.proofs.Reshaping.{may_be_reshaped, open_stated_more}
use Rattle.dbl_txn.specs.Stands.{Stands, StandsWhole, Taken, TakenPiece}
use Rattle.dbl_txn.proofs.Buffering.{whole_still}
use Rattle.dbl_txn_shapes.specs.declared.oids.TableOids.{TableOids}
use Rattle.dbl_txn_shapes.specs.declared.reader.ShapingAssembler.{ShapingAssembler}
use Rattle.dbl_model_commit.specs.Shaped.{reshape_at, reshape_target, shapes_after}
use Rattle.dbl_txn_shapes.specs.Oids.{other_at, with_oid_of, KnowsOids}
use Rattle.dbl_txn_shapes.specs.Shaping.{given_other, target_altered, altered_table, reading_fault, shape_cause, read_of, piece_of, IsRead, IsShapedPiece, IsReady, StandsInColumns, TakenShaped, TakenShapedPiece}
use Rattle.dbl_txn_shapes.proofs.OidLemmas.{numbered, set_itself, oids_passed, oids_kept, oids_seen, oids_reshaped, finds}

-- ---- a made table

made_shape : (info shape : TableInfo) (columns : List Column) (key : List ℕ) (name : TableName) (b : Bool) (sound : is_table name columns key ≡ b)
    → name ≡ shape.name → columns ≡ shape.columns → key ≡ shape.key → table_or info columns key name b sound ≡ shape
made_shape info shape columns key name true sound name_is columns_are key_is =
    let made : TableInfo = record { name = name; columns = columns; key = key; sound = sound } in
    info_one made shape name_is columns_are key_is
made_shape info shape columns key name false sound name_is columns_are key_is =
    let one : is_table name columns key ≡ is_table shape.name shape.columns shape.key =
    ap (λ (n : TableName). is_table n columns key) name_is ∙ (ap (λ (l : List Column). is_table shape.name l key) columns_are ∙ ap
    (is_table shape.name shape.columns) key_is) in
    let both : false ≡ true = sym sound ∙ (one ∙ shape.sound) in
    cc

-- the table that is made of its entry in other columns
pub shape_is : (info shape : TableInfo) (columns : List RelationColumn) → IsInfoOf (entry_in info columns) shape → shaped_by columns info ≡ shape
shape_is info shape columns is =
    let raw_is : map raw_column shape.columns ≡ columns_in columns = ap (λ (r : RawTable). r.columns) is in
    let keys : key_names shape ≡ key_names info = ap (λ (r : RawTable). r.key) is in
    let columns_are : map captured_column (columns_in columns) ≡ shape.columns = ap (map captured_column) (sym raw_is) ∙ columns_again shape.columns
    (typed_columns shape) in
    let key_is : places_of (map captured_column (columns_in columns)) (key_names info) ≡ shape.key =
    ap₂ places_of columns_are (sym keys) ∙ kept (place_of (column_names shape.columns)) (key_names shape) shape.key (places_again shape.columns shape.key
    (distinct_columns shape) (places_within shape)) in
    made_shape info shape (map captured_column (columns_in columns)) (places_of (map captured_column (columns_in columns)) (key_names info)) info.name _ _
    (sym (ap (λ (r : RawTable). r.name) is)) columns_are key_is

pub shape_name : (info shape : TableInfo) (columns : List RelationColumn) → IsInfoOf (entry_in info columns) shape → shape.name ≡ info.name
shape_name info shape columns made = ap (λ (t : RawTable). t.name) made

-- ---- causes

unfit_then : (t k r : Bool) → (r || not k) ≡ true → ((t || not k) || r) ≡ true
unfit_then true k r is = refl
unfit_then false k true is = or_last (not k)
  where
    or_last : (b : Bool) → (b || true) ≡ true
    or_last true = refl
    or_last false = refl
unfit_then false true false is = cc
unfit_then false false false is = refl

fit_then : (t k r : Bool) → t ≡ false → (r || not k) ≡ false → ((t || not k) || r) ≡ false
fit_then true k r none is = cc
fit_then false true true none is = cc
fit_then false true false none is = refl
fit_then false false true none is = cc
fit_then false false false none is = cc

unmade_then : (t k r : Bool) → t ≡ true → ((t || not k) || r) ≡ true
unmade_then true k r is = refl
unmade_then false k r is = cc

module _ (refused : Bool) (info : TableInfo) (columns : List RelationColumn) where
  abbrev cause : Bool → Bool → Option TxnError
  cause same unfit = if not same && unfit then Some (errors.SchemaChanged info.name) else None

  pub same_cause : same_columns info.columns columns ≡ true → shape_cause refused info columns ≡ None
  same_cause same = ap (λ (b : Bool). cause b (are_unfit info columns || refused)) same

  module _ (new : same_columns info.columns columns ≡ false) where
    refused_cause : (are_unfit info columns || refused) ≡ true → shape_cause refused info columns ≡ Some (errors.SchemaChanged info.name)
    refused_cause unfit = ap₂ cause new unfit

    -- refused for the messages before, or for the key
    pub key_judged : (e : TxnError) → (refused || not (keep_key info columns)) ≡ true → (e ≡ errors.Memory) ⊎ (e ≡ errors.SchemaChanged info.name)
        → (e ≡ errors.Memory) ⊎ (shape_cause refused info columns ≡ Some e)
    key_judged e lost (inl memory) = inl memory
    key_judged e lost (inr is) =
        inr (refused_cause (unfit_then (is_some (table_fault (entry_in info columns))) (keep_key info columns) refused lost) ∙ ap (λ (x : TxnError). Some x)
        (sym is))

    made_none : (o : Option ModelError) → (if is_some o then Some (errors.SchemaChanged info.name) else None) ≡ None → is_some o ≡ false
    made_none None is = refl
    made_none (Some error) is = cc

    unmade_is : (o : Option ModelError) (e : TxnError) → (if is_some o then Some (errors.SchemaChanged info.name) else None) ≡ Some e
        → (is_some o ≡ true) × (errors.SchemaChanged info.name ≡ e)
    unmade_is None e is = cc
    unmade_is (Some error) e is = let same : errors.SchemaChanged info.name ≡ e = cc in (refl, same)

    -- the columns make no table
    pub shape_judged : (raw : RawTable) (e : TxnError) → raw ≡ entry_in info columns
        → (e ≡ errors.Memory) ⊎ ((if is_some (table_fault raw) then Some (errors.SchemaChanged info.name) else None) ≡ Some e)
        → (e ≡ errors.Memory) ⊎ (shape_cause refused info columns ≡ Some e)
    shape_judged raw e is (inl memory) = inl memory
    shape_judged raw e is (inr unmade) =
        let parts = unmade_is (table_fault raw) e unmade in
        let none : is_some (table_fault (entry_in info columns)) ≡ true = ap (λ (r : RawTable). is_some (table_fault r)) (sym is) ∙ parts.0 in
        inr (refused_cause (unmade_then (is_some (table_fault (entry_in info columns))) (keep_key info columns) refused none) ∙ ap (λ
        (x : TxnError). Some x) parts.1)

    -- the table can be read in them
    pub none_judged : (raw : RawTable) → raw ≡ entry_in info columns → (refused || not (keep_key info columns)) ≡ false
        → (if is_some (table_fault raw) then Some (errors.SchemaChanged info.name) else None) ≡ None → shape_cause refused info columns ≡ None
    none_judged raw is kept made =
        let none : is_some (table_fault (entry_in info columns)) ≡ false = ap (λ (r : RawTable). is_some (table_fault r)) (sym is) ∙ made_none
        (table_fault raw) made in
        ap₂ cause new (fit_then (is_some (table_fault (entry_in info columns))) (keep_key info columns) refused none kept)

    not_refused : (changes other : Bool) → refused ≡ (changes || other) → shape_cause refused info columns ≡ None → changes ≡ false
    not_refused changes other is none =
        by (are_unfit info columns) changes (sym (ap₂ (λ (b r : Bool). cause b (are_unfit info columns || r)) new is) ∙ none)
      where
        by : (unfit c : Bool) → (if unfit || (c || other) then Some (errors.SchemaChanged info.name) else None) ≡ None → c ≡ false
        by true c is = cc
        by false true is = cc
        by false false is = refl

-- ---- before a message

module _ (infos : List TableInfo) (after : Lsn) (ms : List Message) (held : List Change) (a : ShapingAssembler) where
  ready_at : (m : Message) (next : List TableInfo) (altered : Option ℕ) → shape_fault infos m ms ≡ None → shapes_after m infos ≡ next
      → Stands next after ms held a.assembler → changes_so_far next ms ≡ changes_so_far infos ms
      → IsOpenStated next ms → KnowsOids next (m ∷ ms) a.oids.items → altered ≡ altered_table infos m → IsReady infos after m ms held a altered
  ready_at m next altered clean shapes stands so_far stated oids which = record {
    clean = clean;
    stands = subst (λ (l : List TableInfo). Stands l after ms held a.assembler) (sym shapes) stands;
    so_far = ap (λ (l : List TableInfo). changes_so_far l ms) shapes ∙ so_far;
    stated = subst (λ (l : List TableInfo). IsOpenStated l ms) (sym shapes) stated;
    oids = subst (λ (l : List TableInfo). KnowsOids l (m ∷ ms) a.oids.items) (sym shapes) oids;
    which = which;
  }

  -- one that isn't a Relation
  pub other_ready : (m : Message) → StandsInColumns infos after ms held a → shapes_after m infos ≡ infos → shape_fault infos m ms ≡ None
      → altered_table infos m ≡ None
      → ((oid : ℕ) (name : TableName) → has_other_oid oid name (m ∷ ms) ≡ has_other_oid oid name ms) → IsReady infos after m ms held a None
  other_ready m s shapes clean none kept = ready_at m infos None clean shapes s.stands refl s.stated (oids_kept infos m ms a.oids.items kept s.oids) (sym none)

module _ (infos : List TableInfo) (after : Lsn) (ms : List Message) (given : ℕ) (ns nm : List ℕ) (identity : ℕ) (columns : List RelationColumn) where
  abbrev here : TableName
  here = table_named ns nm

  abbrev m : Message
  m = says.Relation given ns nm identity columns

  -- a Relation of the watermark table
  pub mark_ready : (held : List Change) (a : ShapingAssembler) → StandsInColumns infos after ms held a → is_watermark here ≡ true
      → IsReady infos after m ms held a None
  mark_ready held a s mark =
      let is : target infos here ≡ Watermark = ap (λ (b : Bool). if b then Watermark else captured_at (number_of infos here)) mark in
      ready_at infos after ms held a m infos None (ap (target_refused infos given columns ms) is) (ap (reshape_target infos columns) is) s.stands refl s.stated
      (oids_passed infos ms a.oids.items given ns nm identity columns s.oids (inl mark)) (sym (ap (target_altered infos columns) is))

  -- a Relation of a table that isn't captured
  pub passed_ready : (held : List Change) (a : ShapingAssembler) → StandsInColumns infos after ms held a → is_watermark here ≡ false
      → number_of infos here ≡ None
      → IsReady infos after m ms held a None
  passed_ready held a s no_mark none =
      let is : target infos here ≡ Passed = ap₂ (λ (b : Bool) (o : Option ℕ). if b then Watermark else captured_at o) no_mark none in
      ready_at infos after ms held a m infos None (ap (target_refused infos given columns ms) is) (ap (reshape_target infos columns) is) s.stands refl s.stated
      (oids_passed infos ms a.oids.items given ns nm identity columns s.oids (inr none)) (sym (ap (target_altered infos columns) is))

  module _ (place : ℕ) (no_mark : is_watermark here ≡ false) (at : number_of infos here ≡ Some place) (info : TableInfo)
      (there : slice_get infos place ≡ Some info) (refused : Bool)
      (refused_is : refused ≡ (changes_table place (changes_so_far infos ms) || has_other_oid given info.name ms)) where
    target_is : target infos here ≡ Captured place
    target_is = ap₂ (λ (b : Bool) (o : Option ℕ). if b then Watermark else captured_at o) no_mark at

    fault_is : shape_fault infos m ms ≡ shape_cause refused info columns
    fault_is = ap (target_refused infos given columns ms) target_is ∙ (ap (columns_refused infos given columns ms place) there ∙ ap (λ
        (b : Bool). shape_cause b info columns) (sym refused_is))

    -- it can't be read
    pub shape_fails : (e : TxnError) → (e ≡ errors.Memory) ⊎ (shape_cause refused info columns ≡ Some e)
        → (e ≡ errors.Memory) ⊎ (shape_fault infos m ms ≡ Some e)
    shape_fails e (inl memory) = inl memory
    shape_fails e (inr cause) = inr (fault_is ∙ cause)

    -- its columns from here on
    shapes_are : shapes_after m infos ≡ slice_set infos place (shaped_by columns info)
    shapes_are = ap (reshape_target infos columns) target_is ∙ ap (reshape_at infos place columns) there

    altered_is : altered_table infos m ≡ (if same_columns info.columns columns then None else Some place)
    altered_is = ap (target_altered infos columns) target_is ∙ ap (given_other columns place) there

    pub oids_now : (list : List TableOids) → KnowsOids infos ms list → KnowsOids infos (m ∷ ms) (with_oid_of place given list (slice_get list place))
    oids_now list knows =
        let f = finds infos ms list here place given knows no_mark at in
        subst (KnowsOids infos (m ∷ ms)) (sym f.seen) (oids_seen infos ms list given ns nm identity columns knows place f.oids at f.there f.is)

    -- it has the columns
    pub same_ready : (held : List Change) (a : ShapingAssembler) → Stands infos after ms held a.assembler → IsOpenStated infos ms
        → KnowsOids infos (m ∷ ms) a.oids.items
        → same_columns info.columns columns ≡ true → IsReady infos after m ms held a None
    same_ready held a stands stated oids same =
        ready_at infos after ms held a m infos None (fault_is ∙ same_cause refused info columns same)
        (shapes_are ∙ (ap (slice_set infos place) (read_alike columns info same) ∙ set_itself infos place info there)) stands refl stated oids
        (sym (altered_is ∙ ap (λ (b : Bool). if b then None else Some place) same))

    -- the open transaction has no change of it
    pub unchanged : same_columns info.columns columns ≡ false → shape_cause refused info columns ≡ None → changes_table place (changes_so_far infos ms) ≡ false
    unchanged new none = not_refused refused info columns new (changes_table place (changes_so_far infos ms)) (has_other_oid given info.name ms) refused_is none

    -- it has other columns from here on
    pub shaped_ready : (held : List Change) (a : ShapingAssembler) (shape : TableInfo) → Stands (slice_set infos place shape) after ms held a.assembler
        → IsOpenStated infos ms → KnowsOids infos (m ∷ ms) a.oids.items
        → same_columns info.columns columns ≡ false → IsInfoOf (entry_in info columns) shape → shape_cause refused info columns ≡ None
        → IsReady infos after m ms held a (Some place)
    shaped_ready held a shape stands stated oids new made none =
        let named = shape_name info shape columns made in
        let stays = may_be_reshaped infos ms place info shape there named stated (unchanged new none) in
        ready_at infos after ms held a m (slice_set infos place shape) (Some place) (fault_is ∙ none)
        (shapes_are ∙ ap (slice_set infos place) (shape_is info shape columns made)) stands stays.0 stays.1
        (oids_reshaped infos (m ∷ ms) a.oids.items place info shape there named oids)
        (sym (altered_is ∙ ap (λ (b : Bool). if b then None else Some place) new))

-- ---- the message itself

read_is : (infos : List TableInfo) (m : Message) (ms : List Message) (altered : Option ℕ) (ended : Option Commit) → altered ≡ altered_table infos m
    → ended ≡ ended_commit (shapes_after m infos) m ms → IsRead infos m ms (read_of altered ended)
read_is infos m ms altered (Some commit) which ends = sym ends
read_is infos m ms (Some table) None which ends = (sym which, sym ends)
read_is infos m ms None None which ends = (sym which, sym ends)

-- the changes that are buffered before a message, in the columns in which it is read
pub ready_whole : (infos : List TableInfo) (after : Lsn) (m : Message) (ms : List Message) (a : ShapingAssembler) (altered : Option ℕ)
    → IsReady infos after m ms (open_changes infos ms) a altered
    → StandsWhole (shapes_after m infos) after ms a.assembler
ready_whole infos after m ms a altered ready = whole_still infos (shapes_after m infos) after ms a.assembler ready.so_far ready.stands

stands_now : (infos : List TableInfo) (after : Lsn) (m : Message) (ms : List Message) (held now : List Change) (a b : ShapingAssembler)
    (altered : Option ℕ) → IsReady infos after m ms held a altered
    → transaction_fault (shapes_after m infos) after m ms ≡ None → Stands (shapes_after m infos) after (m ∷ ms) now b.assembler → b.oids.items ≡ a.oids.items
    → StandsInColumns (shapes_after m infos) after (m ∷ ms) now b
stands_now infos after m ms held now a b altered ready clean stands same = record {
  stands = stands;
  stated = open_stated_more (shapes_after m infos) after m ms clean ready.stated;
  oids = subst (KnowsOids (shapes_after m infos) (m ∷ ms)) (sym same) ready.oids;
}

pub shaped_taken : (infos : List TableInfo) (after : Lsn) (m : Message) (ms : List Message) (held : List Change) (a b : ShapingAssembler)
    (altered : Option ℕ) (ended : Option Commit)
    → IsReady infos after m ms held a altered
    → Taken (shapes_after m infos) after m ms b.assembler ended → b.oids.items ≡ a.oids.items → TakenShaped infos after m ms b (read_of altered ended)
shaped_taken infos after m ms held a b altered ended ready taken same = record {
  clean = ap₂ first_of ready.clean taken.clean;
  is = read_is infos m ms altered ended ready.which taken.commit;
  stands = stands_now infos after m ms held (open_changes (shapes_after m infos) (m ∷ ms)) a b altered ready taken.clean taken.stands same;
}

piece_is : (infos : List TableInfo) (m : Message) (ms : List Message) (altered : Option ℕ) (piece : Piece) → altered ≡ altered_table infos m
    → IsPieceOf (shapes_after m infos) m ms piece → IsShapedPiece infos m ms (piece_of altered piece)
piece_is infos m ms (Some table) piece which is = sym which
piece_is infos m ms None piece which is = (sym which, is)

pub piece_taken : (infos : List TableInfo) (after : Lsn) (m : Message) (ms : List Message) (held : List Change) (a b : ShapingAssembler)
    (altered : Option ℕ) (piece : Piece)
    → IsReady infos after m ms held a altered
    → TakenPiece (shapes_after m infos) after m ms b.assembler piece → b.oids.items ≡ a.oids.items
    → TakenShapedPiece infos after m ms b (piece_of altered piece)
piece_taken infos after m ms held a b altered piece ready taken same = record {
  clean = ap₂ first_of ready.clean taken.clean;
  is = piece_is infos m ms altered piece ready.which taken.is;
  stands = stands_now infos after m ms held [] a b altered ready taken.clean taken.stands same;
}

-- its error after its table has the Relation's columns
pub shaped_fails : (infos : List TableInfo) (after : Lsn) (m : Message) (ms : List Message) (held : List Change) (a : ShapingAssembler) (altered : Option ℕ)
    (e : TxnError)
    → IsReady infos after m ms held a altered
    → (e ≡ errors.Memory) ⊎ (transaction_fault (shapes_after m infos) after m ms ≡ Some e) → (e ≡ errors.Memory) ⊎ (reading_fault infos after m ms ≡ Some e)
shaped_fails infos after m ms held a altered e ready (inl memory) = inl memory
shaped_fails infos after m ms held a altered e ready (inr fault) = inr (ap₂ first_of ready.clean fault)

-- its columns are refused
pub refused_fails : (infos : List TableInfo) (after : Lsn) (m : Message) (ms : List Message) (e : TxnError)
    → (e ≡ errors.Memory) ⊎ (shape_fault infos m ms ≡ Some e)
    → (e ≡ errors.Memory) ⊎ (reading_fault infos after m ms ≡ Some e)
refused_fails infos after m ms e (inl memory) = inl memory
refused_fails infos after m ms e (inr fault) = inr (ap (λ (o : Option TxnError). first_of o (transaction_fault (shapes_after m infos) after m ms)) fault)

-- ---- what a Relation's table finds

-- a name by its parts
pub named : (schema name ns nm : List ℕ) → schema ≡ schema_of ns → name ≡ nm
    → (let t : TableName = record { schema = schema; name = name } in t) ≡ table_named ns nm
named schema name ns nm schema_is name_is = ap₂ (λ (s n : List ℕ). let t : TableName = record { schema = s; name = n } in t) schema_is name_is

-- whether other columns of the table are refused for the messages before
pub refused_for : (infos : List TableInfo) (ms : List Message) (given : ℕ) (name : TableName) (place table : ℕ) (info : TableInfo) (list : List TableOids)
    (changed other refused : Bool)
    → is_watermark name ≡ false → number_of infos name ≡ Some place → slice_get infos place ≡ Some info → KnowsOids infos ms list → table ≡ place
    → changed ≡ changes_table table (changes_so_far infos ms) → other ≡ other_at list place given → refused ≡ (changed || other)
    → refused ≡ (changes_table place (changes_so_far infos ms) || has_other_oid given info.name ms)
refused_for infos ms given name place table info list changed other refused no_mark at there knows same changed_is other_is is =
    let found = numbered infos name place at in
    let both : Some info ≡ Some found.info = sym there ∙ found.at in
    let one : info ≡ found.info = cc in
    let name_is : info.name ≡ name = ap (λ (i : TableInfo). i.name) one ∙ found.name_is in
    is ∙ ap₂ (λ (a b : Bool). a || b) (changed_is ∙ ap (λ (k : ℕ). changes_table k (changes_so_far infos ms)) same)
    (other_is ∙ ((finds infos ms list name place given knows no_mark at).other ∙ ap (λ (n : TableName). has_other_oid given n ms) (sym name_is)))
