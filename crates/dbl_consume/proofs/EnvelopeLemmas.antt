-- The payload of a schema envelope, and the effect of a record without envelopes.
use Rattle.std.proofs.Common.{◌≡◌, ◌∙◌, ◌==◌, ◌&&◌, ℕ, List, Bool, true, false, Option, Some, None, is_some, cond, unwrap_or, option_map, option_and_then, codes, Result, Ok, refl, sym, ap, ap₂}
use Rattle.serde_json.specs.Data.{Data, null, boolean, number, string, array, object, Members}
use Rattle.serde_json.specs.Events.{members_len}
use Rattle.serde_json.specs.Find.{get, get_member, as_object}
use Rattle.dbl_record.specs.declared.acts.Act.{Act}
use Rattle.dbl_record.specs.declared.acts.ConsumeError.{ConsumeError}
use Rattle.dbl_record.specs.declared.acts.ConsumeError.TheVariants.{BadJson}
use Rattle.dbl_record.specs.declared.acts.Act.TheVariants.{Nothing}
use Rattle.dbl_record.specs.Acts.{Reading, or_error, is_progress, payload_of, bare_value, act_of, act_of_data}

-- the payload of a value as the code looks for it
abbrev pub payload_in : Data → Option Data
payload_in d = option_map object (option_and_then payload_of (as_object d))

abbrev pub has_two_members : Data → Bool
has_two_members d = unwrap_or (option_map (λ ms. members_len ms == 2) (as_object d)) false

neither : (b : Bool) (o : Option Data) (x : Option Members) → o ≡ None → cond (b && is_some o) x None ≡ None
neither true None x e = refl
neither false None x e = refl
neither b (Some d) x e = absurd (cc)

-- a value without a member `schema` has no payload
pub no_schema : (d : Data) → get (codes "schema") d ≡ None → payload_in d ≡ None
no_schema null e = refl
no_schema (boolean b) e = refl
no_schema (number n) e = refl
no_schema (string s) e = refl
no_schema (array ds) e = refl
no_schema (object ms) e = ap (option_map object) (neither (members_len ms == 2) (get_member (codes "schema") ms) (option_and_then as_object (get_member (codes "payload") ms)) e)

-- a value that hasn't two members has no payload
pub not_two : (d : Data) → has_two_members d ≡ false → payload_in d ≡ None
not_two null e = refl
not_two (boolean b) e = refl
not_two (number n) e = refl
not_two (string s) e = refl
not_two (array ds) e = refl
not_two (object ms) e = ap (λ b. option_map object (cond (b && is_some (get_member (codes "schema") ms)) (option_and_then as_object (get_member (codes "payload") ms)) None)) e

-- a value of two members, one of them `schema`, has the payload that is an object
pub envelope : (d : Data) → is_some (get (codes "schema") d) ≡ true → has_two_members d ≡ true → payload_in d ≡ option_map object (option_and_then as_object (get (codes "payload") d))
envelope null some two = refl
envelope (boolean b) some two = refl
envelope (number n) some two = refl
envelope (string s) some two = refl
envelope (array ds) some two = refl
envelope (object ms) some two = ap₂ (λ a b. option_map object (cond (a && b) (option_and_then as_object (get_member (codes "payload") ms)) None)) two some

-- a value that isn't found has no data, and one that is found has some
pub none_found : {A B : Type 0} (f : A → B) (o : Option A) (d : Option B) → option_map f o ≡ d → is_some o ≡ false → d ≡ None
none_found f None d e is = sym e
none_found f (Some a) d e is = absurd (cc)

pub some_found : {A B : Type 0} (f : A → B) (o : Option A) (d : Option B) → option_map f o ≡ d → is_some o ≡ true → is_some d ≡ true
some_found f None d e is = absurd (cc)
some_found f (Some a) d e is = ap is_some (sym e)

-- an object is one, and anything else is none
pub object_some : (d : Data) → is_some (as_object d) ≡ true → Some d ≡ option_map object (as_object d)
object_some null e = absurd (cc)
object_some (boolean b) e = absurd (cc)
object_some (number n) e = absurd (cc)
object_some (string s) e = absurd (cc)
object_some (array ds) e = absurd (cc)
object_some (object ms) e = refl

pub object_none : (d : Data) → is_some (as_object d) ≡ false → None ≡ option_map object (as_object d)
object_none null e = refl
object_none (boolean b) e = refl
object_none (number n) e = refl
object_none (string s) e = refl
object_none (array ds) e = refl
object_none (object ms) e = absurd (cc)

-- ---- the effect of a record whose key and value are parsed

abbrev effect : List ℕ → Option Data → Option Data → Result Act ConsumeError
effect p key value = or_error BadJson (λ k. or_error BadJson (λ v. act_of_data p (bare_value k) (bare_value v)) value) key

pub progress_act : (p topic : List ℕ) (r : Reading) → topic ≡ r.topic → is_progress topic ≡ true → act_of p r ≡ Ok Nothing
unfolding act_of
progress_act p topic r same is = ap (λ b. cond b (Ok Nothing) (effect p r.key r.value)) (ap is_progress (sym same) ∙ is)

pub parsed_act : (p topic : List ℕ) (r : Reading) (key value : Data) → topic ≡ r.topic → is_progress topic ≡ false → Some key ≡ r.key → Some value ≡ r.value
    → act_of p r ≡ act_of_data p (bare_value key) (bare_value value)
unfolding act_of
parsed_act p topic r key value same other key_is value_is =
    ap (λ b. cond b (Ok Nothing) (effect p r.key r.value)) (ap is_progress (sym same) ∙ other) ∙ ap₂ (effect p) (sym key_is) (sym value_is)

-- a record without a value has no effect
pub no_value_act : (p topic : List ℕ) (r : Reading) (key : Data) → topic ≡ r.topic → is_progress topic ≡ false → Some key ≡ r.key → Some null ≡ r.value → act_of p r ≡ Ok Nothing
no_value_act p topic r key same other key_is value_is = parsed_act p topic r key null same other key_is value_is
