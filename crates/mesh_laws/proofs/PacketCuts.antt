-- What is put of acts that are cut, and how cuts are numbered.
use Rattle.std.proofs.Common.{◌≡◌, ◌⊎◌, ◌+◌, ◌*◌, ◌^◌, ◌&&◌, inl, inr, ℕ, zero, suc, Bool, true, false, cond, nat_le, nat_lt, nat_eq, filter, List, [], ◌∷◌, ◌++◌, length, map, slice_get, Option, Some, None, is_some, refl, sym, ap, ap₂, ◌∙◌, subst, arith, length-append}
use Rattle.std.proofs.lemmas.Bool.{and_parts, eqb-true, false≢true, leb-false, leb-true, ltb-true}
use Rattle.std.proofs.lemmas.Option.{same_Some}
use Rattle.mesh_base.specs.declared.address.Mac.{Mac}
use Rattle.mesh_model.specs.declared.act.Act.{Act}
use Rattle.mesh_model.specs.declared.act.Act.TheVariants.{Link, Lan, Print}
use Rattle.mesh_model.specs.declared.packet.Head.{Head}
use Rattle.mesh_model.specs.Acts.Choosing.{cutter_by, cuts_by, whole_acts}
use Rattle.mesh_model.specs.Acts.Cuts.{Cutter, after_act, cut_acts, cuts_among, fragment_act, fragment_acts, is_cut, is_too_long, next_cut}
use Rattle.mesh_model.specs.Clients.Log.{Log, settings}
use Rattle.mesh_model.specs.Fragments.Cutting.{CanBeMade, Cut, fragments, reach_of, tail_size}
use Rattle.mesh_model.specs.Net.Next.{Has}
use Rattle.mesh_model.specs.Routes.Queries.{Queries}
use Rattle.mesh_laws.specs.CutLaws.{CutsAreNumbered, IsPutForCut, NothingIsCut, PutsAreOfActs, cut_of_act, cuts_made, cuts_of_log}

-- ---- where all packets go whole
never_cut : (act : Act) → is_cut 0 act ≡ false
never_cut (Link to reason bytes) = refl
never_cut (Lan bytes) = refl
never_cut (Print event) = refl

all_whole : (me : Mac) (cuts : ℕ) (acts : List Act) → cut_acts (record { me = me; most = 0; cuts = cuts }) acts ≡ acts
all_whole me cuts [] = refl
all_whole me cuts (act ∷ acts) = go (is_cut 0 act) (never_cut act) (all_whole me cuts acts)
  where
    cutter : Cutter
    cutter = record { me = me; most = 0; cuts = cuts }

    go : (b : Bool) → b ≡ false → cut_acts cutter acts ≡ acts
        → cond (b && nat_le 65535 cuts) [] (cond b (fragment_acts cutter act) (act ∷ []) ++ cut_acts (cond b (record cutter { cuts = suc cuts }) cutter) acts) ≡ act ∷ acts
    go true is rest = absurd (false≢true (sym is))
    go false is rest = ap (λ others. act ∷ others) rest

pub nothing_is_cut : NothingIsCut
nothing_is_cut cutter acts none = subst (λ most. cut_acts (record { me = cutter.me; most = most; cuts = cutter.cuts }) acts ≡ acts) (sym none) (all_whole cutter.me cutter.cuts acts)

-- ---- what is put
has_append : {X : Type 0} (xs ys : List X) (x : X) → Has (xs ++ ys) x → Has xs x ⊎ Has ys x
has_append [] ys x has = inr has
has_append (y ∷ xs) ys x (inl is) = inl (inl is)
has_append {X} (y ∷ xs) ys x (inr has) = go (has_append xs ys x has)
  where
    go : Has xs x ⊎ Has ys x → Has (y ∷ xs) x ⊎ Has ys x
    go (inl there) = inl (inr there)
    go (inr there) = inr there

has_left : {X : Type 0} (xs ys : List X) (x : X) → Has xs x → Has (xs ++ ys) x
has_left [] ys x has = absurd has
has_left (y ∷ xs) ys x (inl is) = inl is
has_left (y ∷ xs) ys x (inr has) = inr (has_left xs ys x has)

has_right : {X : Type 0} (xs ys : List X) (x : X) → Has ys x → Has (xs ++ ys) x
has_right [] ys x has = has
has_right (y ∷ xs) ys x has = inr (has_right xs ys x has)

-- a fragment of a list of them
record IsAmong (to : Option Mac) (list : List (Head × List ℕ)) (act : Act) : Type 0 where
  fragment : Head × List ℕ
  there : Has list fragment
  is : act ≡ fragment_act to fragment

among : (to : Option Mac) (list : List (Head × List ℕ)) (act : Act) → Has (map (fragment_act to) list) act → IsAmong to list act
among to [] act has = absurd has
among to (fragment ∷ list) act (inl is) = record { fragment = fragment; there = inl refl; is = is }
among to (fragment ∷ list) act (inr has) = let a = among to list act has in record { fragment = a.fragment; there = inr a.there; is = a.is }

-- ---- cuts that are made
can_be : (cutter : Cutter) (bytes : List ℕ) → (is_too_long cutter.most (length bytes) && is_some (reach_of bytes)) ≡ true → CanBeMade (next_cut cutter bytes)
can_be cutter bytes is =
    let most = cutter.most in
    let size = length bytes in
    let both = and_parts (is_too_long most size) (is_some (reach_of bytes)) is in
    let one = and_parts (nat_le 300 most && nat_lt most size && nat_le size (16 * tail_size most)) (nat_lt size (2 ^ 16)) both.0 in
    let two = and_parts (nat_le 300 most && nat_lt most size) (nat_le size (16 * tail_size most)) one.0 in
    let three = and_parts (nat_le 300 most) (nat_lt most size) two.0 in
    record {
      wide = leb-true 300 most three.0;
      long = ltb-true most size three.1;
      held = leb-true size (16 * tail_size most) two.1;
      told = ltb-true size (2 ^ 16) one.1;
      unicast = both.1;
    }

put_for : (cutter : Cutter) (one act : Act) (acts : List Act) → is_cut cutter.most one ≡ true → nat_le 65535 cutter.cuts ≡ false → Has (fragment_acts cutter one) act → (rest : List Cut) → cuts_made cutter (one ∷ acts) ≡ cut_of_act cutter one ++ rest
    → IsPutForCut cutter (one ∷ acts) act
put_for cutter (Link to reason bytes) act acts is low has rest made =
    let a = among to (fragments (next_cut cutter bytes)) act has in
    record {
      cut = next_cut cutter bytes;
      made = subst (λ cuts. Has cuts (next_cut cutter bytes)) (sym made) (inl refl);
      can_be_made = can_be cutter bytes is;
      own = refl;
      few = leb-false 65535 cutter.cuts low;
      to = to;
      reason = reason;
      whole = inl refl;
      fragment = a.fragment;
      is_of_cut = a.there;
      is = a.is;
    }
put_for cutter (Lan bytes) act acts is low has rest made = absurd has
put_for cutter (Print event) act acts is low has rest made = absurd has

same_me : (cutter : Cutter) (act : Act) → (after_act cutter act).me ≡ cutter.me
same_me cutter act = go (is_cut cutter.most act)
  where
    go : (b : Bool) → (cond b (record cutter { cuts = suc cutter.cuts }) cutter).me ≡ cutter.me
    go true = refl
    go false = refl

pub puts_are_of_acts : PutsAreOfActs
puts_are_of_acts cutter [] act has = absurd has
puts_are_of_acts cutter (one ∷ acts) act has =
    go (is_cut cutter.most one) (nat_le 65535 cutter.cuts) refl refl has (puts_are_of_acts (after_act cutter one) acts act)
  where
    behind : Has acts act ⊎ IsPutForCut (after_act cutter one) acts act → Has (one ∷ acts) act ⊎ IsPutForCut cutter (one ∷ acts) act
    behind (inl there) = inl (inr there)
    behind (inr put) = inr (record {
      cut = put.cut;
      made = has_right (cond (is_cut cutter.most one) (cut_of_act cutter one) []) (cuts_made (after_act cutter one) acts) put.cut put.made;
      can_be_made = put.can_be_made;
      own = put.own ∙ same_me cutter one;
      few = put.few;
      to = put.to;
      reason = put.reason;
      whole = inr put.whole;
      fragment = put.fragment;
      is_of_cut = put.is_of_cut;
      is = put.is;
    })

    go : (cuts full : Bool) → is_cut cutter.most one ≡ cuts → nat_le 65535 cutter.cuts ≡ full
        → Has (cond (cuts && full) [] (cond cuts (fragment_acts cutter one) (one ∷ []) ++ cut_acts (after_act cutter one) acts)) act
        → (Has (cut_acts (after_act cutter one) acts) act → Has acts act ⊎ IsPutForCut (after_act cutter one) acts act)
        → Has (one ∷ acts) act ⊎ IsPutForCut cutter (one ∷ acts) act
    go true true is low has rest = absurd has
    go true false is low has rest = by (has_append (fragment_acts cutter one) (cut_acts (after_act cutter one) acts) act has)
      where
        by : Has (fragment_acts cutter one) act ⊎ Has (cut_acts (after_act cutter one) acts) act → Has (one ∷ acts) act ⊎ IsPutForCut cutter (one ∷ acts) act
        by (inl here) = inr (put_for cutter one act acts is low here (cuts_made (after_act cutter one) acts) (ap (λ b. cond b (cut_of_act cutter one) [] ++ cuts_made (after_act cutter one) acts) is))
        by (inr there) = behind (rest there)
    go false full is low (inl here) rest = inl (inl here)
    go false full is low (inr there) rest = behind (rest there)

-- ---- numbers
-- an act that is cut has a cut
one_cut : (cutter : Cutter) (act : Act) → is_cut cutter.most act ≡ true → length (cut_of_act cutter act) ≡ 1
one_cut cutter (Link to reason bytes) is = refl
one_cut cutter (Lan bytes) is = absurd (false≢true is)
one_cut cutter (Print event) is = absurd (false≢true is)

made_counted : (cutter : Cutter) (acts : List Act) → length (cuts_made cutter acts) ≡ cuts_among cutter.most acts
made_counted cutter [] = refl
made_counted cutter (act ∷ acts) = go (is_cut cutter.most act) refl (λ cuts. made_counted (record cutter { cuts = cuts }) acts)
  where
    others : List Act
    others = filter (is_cut cutter.most) acts

    go : (b : Bool) → is_cut cutter.most act ≡ b → ((cuts : ℕ) → length (cuts_made (record cutter { cuts = cuts }) acts) ≡ length others)
        → length (cond b (cut_of_act cutter act) [] ++ cuts_made (cond b (record cutter { cuts = suc cutter.cuts }) cutter) acts) ≡ length (cond b (act ∷ others) others)
    go true is rest =
        length-append (cut_of_act cutter act) (cuts_made (record cutter { cuts = suc cutter.cuts }) acts)
        ∙ ap₂ (λ one more. one + more) (one_cut cutter act is) (rest (suc cutter.cuts))
        ∙ (let more : 1 + length others ≡ suc (length others) = omega arith in more)
    go false is rest = rest cutter.cuts

-- cuts that are numbered from a number on
abbrev AreFrom : ℕ → List Cut → Type 0
AreFrom first cuts = (place : ℕ) (cut : Cut) → slice_get cuts place ≡ Some cut → cut.number ≡ suc (first + place)

none_there : {X : Type 0} (place : ℕ) (cut : Cut) → None ≡ Some cut → X
none_there place cut there = cc

one_more : (first : ℕ) (made : Cut) (rest : List Cut) → made.number ≡ suc first → AreFrom (suc first) rest → AreFrom first (made ∷ rest)
one_more first made rest is from zero cut there =
    let same : suc first ≡ suc (first + 0) = omega arith in
    ap (λ (c : Cut). c.number) (sym (same_Some made cut there)) ∙ is ∙ same
one_more first made rest is from (suc place) cut there =
    let same : suc (suc first + place) ≡ suc (first + suc place) = omega arith in
    from place cut there ∙ same

made_numbered : (cutter : Cutter) (acts : List Act) → AreFrom cutter.cuts (cuts_made cutter acts)
made_numbered cutter [] = λ place cut there. none_there place cut there
made_numbered cutter (act ∷ acts) = go act (is_cut cutter.most act) refl (λ cuts. made_numbered (record cutter { cuts = cuts }) acts)
  where
    go : (one : Act) (b : Bool) → is_cut cutter.most one ≡ b → ((cuts : ℕ) → AreFrom cuts (cuts_made (record cutter { cuts = cuts }) acts))
        → AreFrom cutter.cuts (cond b (cut_of_act cutter one) [] ++ cuts_made (cond b (record cutter { cuts = suc cutter.cuts }) cutter) acts)
    go (Link to reason bytes) true is rest = one_more cutter.cuts (next_cut cutter bytes) (cuts_made (record cutter { cuts = suc cutter.cuts }) acts) refl (rest (suc cutter.cuts))
    go (Lan bytes) true is rest = absurd (false≢true is)
    go (Print event) true is rest = absurd (false≢true is)
    go one false is rest = rest cutter.cuts

from_both : (first : ℕ) (xs ys : List Cut) → AreFrom first xs → AreFrom (first + length xs) ys → AreFrom first (xs ++ ys)
from_both first [] ys one other place cut there =
    let same : suc (first + 0 + place) ≡ suc (first + place) = omega arith in
    other place cut there ∙ same
from_both first (x ∷ xs) ys one other zero cut there = one zero cut there
from_both first (x ∷ xs) ys one other (suc place) cut there =
    let moved : (p : ℕ) → suc (first + suc p) ≡ suc (suc first + p) = λ p. omega arith in
    let behind : (p : ℕ) → suc (first + suc (length xs) + p) ≡ suc (suc first + length xs + p) = λ p. omega arith in
    from_both (suc first) xs ys (λ p c i. one (suc p) c i ∙ moved p) (λ p c i. other p c i ∙ behind p) place cut there ∙ sym (moved place)

none_among : (acts : List Act) → cuts_among 0 acts ≡ 0
none_among [] = refl
none_among (act ∷ acts) = ap (λ b. length (cond b (act ∷ filter (is_cut 0) acts) (filter (is_cut 0) acts))) (never_cut act) ∙ none_among acts

among_if : (most : ℕ) (acts : List Act) → cuts_among most acts ≡ cond (nat_eq most 0) 0 (cuts_among most acts)
among_if most acts = go (nat_eq most 0) refl
  where
    go : (b : Bool) → nat_eq most 0 ≡ b → cuts_among most acts ≡ cond b 0 (cuts_among most acts)
    go true is = ap (λ n. cuts_among n acts) (eqb-true most 0 is) ∙ none_among acts
    go false is = refl

log_counted : (q : Queries) (me : Mac) (log : Log) → length (cuts_of_log q me log) ≡ cuts_by q me log
log_counted q me [] = refl
log_counted q me (entry ∷ older) =
    let acts = whole_acts q me older entry.moment entry.given in
    length-append (cuts_of_log q me older) (cuts_made (cutter_by q me older) acts)
    ∙ ap₂ (λ before more. before + more) (log_counted q me older) (made_counted (cutter_by q me older) acts ∙ among_if (settings older).longest_whole acts)

log_numbered : (q : Queries) (me : Mac) (log : Log) → AreFrom 0 (cuts_of_log q me log)
log_numbered q me [] = λ place cut there. none_there place cut there
log_numbered q me (entry ∷ older) =
    let made = cuts_made (cutter_by q me older) (whole_acts q me older entry.moment entry.given) in
    let first : 0 + length (cuts_of_log q me older) ≡ cuts_by q me older = (let none : 0 + length (cuts_of_log q me older) ≡ length (cuts_of_log q me older) = omega arith in none) ∙ log_counted q me older in
    from_both 0 (cuts_of_log q me older) made (log_numbered q me older)
    (subst (λ n. AreFrom n made) (sym first) (made_numbered (cutter_by q me older) (whole_acts q me older entry.moment entry.given)))

pub cuts_are_numbered : CutsAreNumbered
cuts_are_numbered q me log = record {
  counted = log_counted q me log;
  numbered = λ place cut there.
      let same : suc (0 + place) ≡ suc place = omega arith in
      log_numbered q me log place cut there ∙ same;
}
