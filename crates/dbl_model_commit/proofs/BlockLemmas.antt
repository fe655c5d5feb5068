-- Commits by blocks are the commits that looking back gives.
use Rattle.std.proofs.Common.{◌≡◌, List, [], ◌∷◌, ◌++◌, refl, sym, ◌∙◌, ap, append_assoc}
use Rattle.std.proofs.lemmas.List.{append-nil}
use Rattle.std.specs.Prelude.{flat_map, Option, Some, None, is_some, option_map, not}
use Rattle.std.specs.List.{AllByRecursion}
use Rattle.dbl_pgmsg.specs.declared.messages.Message.{Message}
use Rattle.dbl_pgmsg.specs.declared.messages.Message.TheVariants as says
use Rattle.dbl_model_table.specs.declared.change.Change.{Change}
use Rattle.dbl_model_table.specs.declared.change.Commit.{Commit}
use Rattle.dbl_model_table.specs.declared.table.TableInfo.{TableInfo}
use Rattle.dbl_model_commit.specs.Past.{begin_of, open_mark}
use Rattle.dbl_model_commit.specs.Stated.{stated, ok_or_none, open_changes, commit_of, commits_of, ended_commit, list_of, is_empty}
use Rattle.dbl_model_commit.specs.Blocks.{onto, Block, Part, Between, Whole, messages_of, IsFurther, IsPart, IsRest, changes_in, commit_in, commits_in, States, open_messages}

pub onto-append : (before xs ys : List Message) → onto before (xs ++ ys) ≡ onto (onto before xs) ys
onto-append before [] ys = refl
onto-append before (x ∷ xs) ys = onto-append (x ∷ before) xs ys

module _ (infos : List TableInfo) where
  pub changes_push : (m : Message) (before : List Message) → IsFurther m → open_changes infos (m ∷ before) ≡ open_changes infos before ++ ok_or_none (stated infos m before)
  changes_push (says.Begin l t x) before is = absurd is
  changes_push (says.Commit f l e t) before is = absurd is
  changes_push (says.Origin l n) before is = refl
  changes_push (says.TypeName o n m) before is = refl
  changes_push (says.Relation o n m i c) before is = refl
  changes_push (says.Insert o r) before is = refl
  changes_push (says.Update o b r) before is = refl
  changes_push (says.Delete o b) before is = refl
  changes_push (says.Truncate p o) before is = refl
  changes_push (says.Logical f l p c) before is = refl

  pub begin_push : (m : Message) (before : List Message) → IsFurther m → begin_of (m ∷ before) ≡ begin_of before
  begin_push (says.Begin l t x) before is = absurd is
  begin_push (says.Commit f l e t) before is = absurd is
  begin_push (says.Origin l n) before is = refl
  begin_push (says.TypeName o n m) before is = refl
  begin_push (says.Relation o n m i c) before is = refl
  begin_push (says.Insert o r) before is = refl
  begin_push (says.Update o b r) before is = refl
  begin_push (says.Delete o b) before is = refl
  begin_push (says.Truncate p o) before is = refl
  begin_push (says.Logical f l p c) before is = refl

  commits_push : (m : Message) (before : List Message) → IsFurther m → commits_of infos (m ∷ before) ≡ commits_of infos before
  commits_push (says.Begin l t x) before is = absurd is
  commits_push (says.Commit f l e t) before is = absurd is
  commits_push (says.Origin l n) before is = append-nil (commits_of infos before)
  commits_push (says.TypeName o n m) before is = append-nil (commits_of infos before)
  commits_push (says.Relation o n m i c) before is = append-nil (commits_of infos before)
  commits_push (says.Insert o r) before is = append-nil (commits_of infos before)
  commits_push (says.Update o b r) before is = append-nil (commits_of infos before)
  commits_push (says.Delete o b) before is = append-nil (commits_of infos before)
  commits_push (says.Truncate p o) before is = append-nil (commits_of infos before)
  commits_push (says.Logical f l p c) before is = append-nil (commits_of infos before)

  changes_onto : (before inner : List Message) → AllByRecursion IsFurther inner → open_changes infos (onto before inner) ≡ open_changes infos before ++ changes_in infos before inner
  changes_onto before [] all = sym (append-nil (open_changes infos before))
  changes_onto before (m ∷ ms) all =
      changes_onto (m ∷ before) ms all.1 ∙ ap (λ (cs : List Change). cs ++ changes_in infos (m ∷ before) ms) (changes_push m before all.0)
      ∙ append_assoc (open_changes infos before) (ok_or_none (stated infos m before)) (changes_in infos (m ∷ before) ms)

  pub begin_onto : (before inner : List Message) → AllByRecursion IsFurther inner → begin_of (onto before inner) ≡ begin_of before
  begin_onto before [] all = refl
  begin_onto before (m ∷ ms) all = begin_onto (m ∷ before) ms all.1 ∙ begin_push m before all.0

  commits_onto : (before inner : List Message) → AllByRecursion IsFurther inner → commits_of infos (onto before inner) ≡ commits_of infos before
  commits_onto before [] all = refl
  commits_onto before (m ∷ ms) all = commits_onto (m ∷ before) ms all.1 ∙ commits_push m before all.0

  -- one whole block
  block_onto : (before : List Message) (b : Block) → AllByRecursion IsFurther b.inner
      → commits_of infos (onto before (messages_of (Whole b))) ≡ commits_of infos before ++ commit_in infos (says.Begin b.lsn b.time b.xid ∷ before) b ∷ []
  block_onto before b all =
      let start = says.Begin b.lsn b.time b.xid ∷ before in
      let inside = onto start b.inner in
      let end = says.Commit b.flags b.lsn b.end_lsn b.end_time in
      let seam : commits_of infos (onto before (messages_of (Whole b))) ≡ commits_of infos (end ∷ inside) = ap (commits_of infos) (onto-append start b.inner (end ∷ [])) in
      let one : ended_commit infos end inside ≡ Some (commit_in infos start b) =
      ap (λ (cs : List Change). option_map (commit_of b.lsn b.end_lsn (open_mark inside) cs) (begin_of inside)) (changes_onto start b.inner all)
      ∙ ap (option_map (commit_of b.lsn b.end_lsn (open_mark inside) (changes_in infos start b.inner))) (begin_onto start b.inner all) in
      let none : commits_of infos inside ≡ commits_of infos before = commits_onto start b.inner all ∙ append-nil (commits_of infos before) in
      seam ∙ ap (λ (o : Option Commit). commits_of infos inside ++ list_of o) one ∙ ap (λ (cs : List Commit). cs ++ commit_in infos start b ∷ []) none

  part_closed : (before : List Message) (p : Part) → IsPart p → begin_of before ≡ None → begin_of (onto before (messages_of p)) ≡ None
  part_closed before (Between m) is none = begin_push m before is ∙ none
  part_closed before (Whole b) is none = ap begin_of (onto-append (says.Begin b.lsn b.time b.xid ∷ before) b.inner (says.Commit b.flags b.lsn b.end_lsn b.end_time ∷ []))

  parts_onto : (before : List Message) (parts : List Part) → AllByRecursion IsPart parts → commits_of infos (onto before (flat_map messages_of parts)) ≡ commits_of infos before ++ commits_in infos before parts
  parts_onto before [] all = sym (append-nil (commits_of infos before))
  parts_onto before (Between m ∷ parts) all = parts_onto (m ∷ before) parts all.1 ∙ ap (λ (cs : List Commit). cs ++ commits_in infos (m ∷ before) parts) (commits_push m before all.0)
  parts_onto before (Whole b ∷ parts) all =
      let after = onto before (messages_of (Whole b)) in
      ap (commits_of infos) (onto-append before (messages_of (Whole b)) (flat_map messages_of parts))
      ∙ parts_onto after parts all.1
      ∙ ap (λ (cs : List Commit). cs ++ commits_in infos after parts) (block_onto before b all.0)
      ∙ append_assoc (commits_of infos before) (commit_in infos (says.Begin b.lsn b.time b.xid ∷ before) b ∷ []) (commits_in infos after parts)

  pub parts_closed : (before : List Message) (parts : List Part) → AllByRecursion IsPart parts → begin_of before ≡ None → begin_of (onto before (flat_map messages_of parts)) ≡ None
  parts_closed before [] all none = none
  parts_closed before (p ∷ parts) all none = ap begin_of (onto-append before (messages_of p) (flat_map messages_of parts)) ∙ parts_closed (onto before (messages_of p)) parts all.1 (part_closed before p all.0 none)

  rest_onto : (before rest : List Message) → IsRest rest → commits_of infos (onto before rest) ≡ commits_of infos before
  rest_onto before [] is = refl
  rest_onto before (says.Begin l t x ∷ ms) is = commits_onto (says.Begin l t x ∷ before) ms is ∙ append-nil (commits_of infos before)
  rest_onto before (says.Commit f l e t ∷ ms) is = absurd is
  rest_onto before (says.Origin l n ∷ ms) is = absurd is
  rest_onto before (says.TypeName o n m ∷ ms) is = absurd is
  rest_onto before (says.Relation o n m i c ∷ ms) is = absurd is
  rest_onto before (says.Insert o r ∷ ms) is = absurd is
  rest_onto before (says.Update o b r ∷ ms) is = absurd is
  rest_onto before (says.Delete o b ∷ ms) is = absurd is
  rest_onto before (says.Truncate p o ∷ ms) is = absurd is
  rest_onto before (says.Logical f l p c ∷ ms) is = absurd is

  -- Whatever blocks a list is taken apart into, they state what looking back gives.
  pub one_reading : (ms : List Message) (cs : List Commit) (rest : List Message) → States infos ms cs rest → cs ≡ commits_of infos (onto [] ms)
  one_reading ms cs rest s =
      s.stated ∙ sym (parts_onto [] s.parts s.are_parts) ∙ sym (rest_onto (onto [] (flat_map messages_of s.parts)) rest s.is_rest)
      ∙ ap (commits_of infos) (sym (onto-append [] (flat_map messages_of s.parts) rest)) ∙ ap (λ (l : List Message). commits_of infos (onto [] l)) (sym s.spelled)

  pub inside_rest : (before rest : List Message) → IsRest rest → begin_of before ≡ None → is_some (begin_of (onto before rest)) ≡ not (is_empty rest)
  inside_rest before [] is none = ap is_some none
  inside_rest before (says.Begin l t x ∷ ms) is none = ap is_some (begin_onto (says.Begin l t x ∷ before) ms is)
  inside_rest before (says.Commit f l e t ∷ ms) is none = absurd is
  inside_rest before (says.Origin l n ∷ ms) is none = absurd is
  inside_rest before (says.TypeName o n m ∷ ms) is none = absurd is
  inside_rest before (says.Relation o n m i c ∷ ms) is none = absurd is
  inside_rest before (says.Insert o r ∷ ms) is none = absurd is
  inside_rest before (says.Update o b r ∷ ms) is none = absurd is
  inside_rest before (says.Delete o b ∷ ms) is none = absurd is
  inside_rest before (says.Truncate p o ∷ ms) is none = absurd is
  inside_rest before (says.Logical f l p c ∷ ms) is none = absurd is

  -- A transaction is open where there is a rest.
  pub one_inside : (ms : List Message) (cs : List Commit) (rest : List Message) → States infos ms cs rest → is_some (begin_of (onto [] ms)) ≡ not (is_empty rest)
  one_inside ms cs rest s =
      ap (λ (l : List Message). is_some (begin_of (onto [] l))) s.spelled ∙ ap (λ (l : List Message). is_some (begin_of l)) (onto-append [] (flat_map messages_of s.parts) rest)
      ∙ inside_rest (onto [] (flat_map messages_of s.parts)) rest s.is_rest (parts_closed [] s.parts s.are_parts refl)

open_push : (m : Message) (before subsequent : List Message) → IsFurther m → open_messages (m ∷ before) subsequent ≡ open_messages before (m ∷ subsequent)
open_push (says.Begin l t x) before subsequent is = absurd is
open_push (says.Commit f l e t) before subsequent is = absurd is
open_push (says.Origin l n) before subsequent is = refl
open_push (says.TypeName o n m) before subsequent is = refl
open_push (says.Relation o n m i c) before subsequent is = refl
open_push (says.Insert o r) before subsequent is = refl
open_push (says.Update o b r) before subsequent is = refl
open_push (says.Delete o b) before subsequent is = refl
open_push (says.Truncate p o) before subsequent is = refl
open_push (says.Logical f l p c) before subsequent is = refl

open_onto : (before inner subsequent : List Message) → AllByRecursion IsFurther inner → open_messages (onto before inner) subsequent ≡ open_messages before (inner ++ subsequent)
open_onto before [] subsequent all = refl
open_onto before (m ∷ ms) subsequent all = open_onto (m ∷ before) ms subsequent all.1 ∙ open_push m before (ms ++ subsequent) all.0

open_none : (before subsequent : List Message) → begin_of before ≡ None → open_messages before subsequent ≡ []
open_none [] subsequent none = refl
open_none (says.Begin l t x ∷ before) subsequent none = cc
open_none (says.Commit f l e t ∷ before) subsequent none = refl
open_none (says.Origin l n ∷ before) subsequent none = open_none before (says.Origin l n ∷ subsequent) none
open_none (says.TypeName o n m ∷ before) subsequent none = open_none before (says.TypeName o n m ∷ subsequent) none
open_none (says.Relation o n m i c ∷ before) subsequent none = open_none before (says.Relation o n m i c ∷ subsequent) none
open_none (says.Insert o r ∷ before) subsequent none = open_none before (says.Insert o r ∷ subsequent) none
open_none (says.Update o b r ∷ before) subsequent none = open_none before (says.Update o b r ∷ subsequent) none
open_none (says.Delete o b ∷ before) subsequent none = open_none before (says.Delete o b ∷ subsequent) none
open_none (says.Truncate p o ∷ before) subsequent none = open_none before (says.Truncate p o ∷ subsequent) none
open_none (says.Logical f l p c ∷ before) subsequent none = open_none before (says.Logical f l p c ∷ subsequent) none

open_rest : (before rest : List Message) → IsRest rest → begin_of before ≡ None → open_messages (onto before rest) [] ≡ rest
open_rest before [] is none = open_none before [] none
open_rest before (says.Begin l t x ∷ ms) is none = open_onto (says.Begin l t x ∷ before) ms [] is ∙ ap (λ (some : List Message). says.Begin l t x ∷ some) (append-nil ms)
open_rest before (says.Commit f l e t ∷ ms) is none = absurd is
open_rest before (says.Origin l n ∷ ms) is none = absurd is
open_rest before (says.TypeName o n m ∷ ms) is none = absurd is
open_rest before (says.Relation o n m i c ∷ ms) is none = absurd is
open_rest before (says.Insert o r ∷ ms) is none = absurd is
open_rest before (says.Update o b r ∷ ms) is none = absurd is
open_rest before (says.Delete o b ∷ ms) is none = absurd is
open_rest before (says.Truncate p o ∷ ms) is none = absurd is
open_rest before (says.Logical f l p c ∷ ms) is none = absurd is

-- There is one rest.
pub one_rest : (infos : List TableInfo) (ms : List Message) (cs : List Commit) (rest : List Message) → States infos ms cs rest → rest ≡ open_messages (onto [] ms) []
one_rest infos ms cs rest s =
    sym (ap (λ (l : List Message). open_messages (onto [] l) []) s.spelled ∙ ap (λ (l : List Message). open_messages l []) (onto-append [] (flat_map messages_of s.parts) rest)
    ∙ open_rest (onto [] (flat_map messages_of s.parts)) rest s.is_rest (parts_closed infos [] s.parts s.are_parts refl))
