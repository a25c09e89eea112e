-- The fragments of a cut that come in any order and however often.
use Rattle.std.proofs.Common.{◌≡◌, ◌<◌, ◌≤◌, ◌+◌, ◌-◌, ◌*◌, ◌&&◌, ◌||◌, ◌⊎◌, inl, inr, ℕ, zero, suc, Bool, true, false, cond, nat_eq, List, [], ◌∷◌, ◌++◌, length, take, Option, None, Some, IfSome, IsSome, is_some, unwrap_or, option_and_then, option_map, refl, sym, ap, ap₂, ◌∙◌, subst, arith, take-add, take_all}
use Rattle.std.specs.Map.{lookup}
use Rattle.std.specs.Option.{option_or}
use Rattle.std.proofs.lemmas.Bool.{false≢true, cases_lt, eq-eqb, eqb-true, lt-ltb}
use Rattle.std.proofs.lemmas.List.{length-take}
use Rattle.mesh_model.specs.Fragments.Assembly.{Assembly, PartCall, assembly, bytes_below, goes_to, if_not_whole, if_so_many, made_whole, new_assembly, standing, whole_at, whole_of, with_part}
use Rattle.mesh_model.specs.Fragments.Cutting.{CanBeMade, Cut, Reach, fragment_count, fragments, fragments_within, reach_of, tail_size}
use Rattle.mesh_frag.specs.Laws.{AreFragments, AreInTime, CutsComeBack, IsLastMissing, has_come, is_of_cut}
use Rattle.mesh_frag.proofs.CutLemmas.{begins_within, count_is, few, holds}
use Rattle.mesh_frag.proofs.FragLemmas.{keeps_opening}
use Rattle.mesh_frag.proofs.MomentLemmas.{goes_on_with, standing_later}
use Rattle.mesh_frag.proofs.PartLemmas.{first_whole, just_whole, lacking, none_whole, not_whole}
use Rattle.mesh_frag.proofs.WholeLemmas.{HasTailsOf, first_bytes, found_with, fragment_is, tail_of}

module _ (cut : Cut) (can : CanBeMade cut) where
  abbrev size : ℕ
  size = tail_size cut.most

  abbrev total : ℕ
  total = length cut.packet

  abbrev count : ℕ
  count = fragment_count cut.most cut.packet

  -- so many fragments a cut that can be made has
  count_of_cut : length (fragments cut) ≡ count
  count_of_cut = go (reach_of cut.packet) can.unicast
    where
      go : (reach : Option Reach) → IsSome reach → length (fragments_within cut reach) ≡ fragment_count cut.most cut.packet
      go None some = absurd (false≢true some)
      go (Some reach) some = count_is cut reach

  -- ---- some of them aren't the packet
  -- so many pieces are shorter, where one more begins within it
  shorter : (n : ℕ) → n < count → length (take (n * size) cut.packet) ≡ total → ⊥
  shorter n lt same = omega (arith, same, length-take (n * size) cut.packet, begins_within cut can n lt)

  -- where a place is missing, the tails that are there don't make it whole
  some_missing : (parts : List (ℕ × List ℕ)) (place : ℕ) → HasTailsOf cut parts → place < count → lookup (nat_eq place) parts ≡ None → whole_of total parts ≡ None
  unfolding whole_of
  some_missing parts place has lt none = none_whole parts total 16 (λ c below. go c (cases_lt c place))
    where
      differ : (c : ℕ) → c < place → (bytes : Option (List ℕ)) → bytes_below parts (suc c) ≡ bytes → IfSome bytes (λ others. length others ≡ length cut.packet → ⊥)
      differ c below None there = tt
      differ c below (Some bytes) there = λ same. shorter (suc c) (omega (arith, below, lt)) (ap length (sym (first_bytes cut parts has (suc c) bytes there)) ∙ same)

      go : (c : ℕ) → (c < place) ⊎ (place ≤ c) → whole_at (length cut.packet) parts (suc c) ≡ None
      go c (inl below) = not_whole parts (length cut.packet) (bytes_below parts (suc c)) (differ c below (bytes_below parts (suc c)) refl)
      go c (inr above) = ap (option_and_then (if_so_many (length cut.packet))) (lacking parts place (suc c) none (omega (arith, above)))

  -- ---- all of them are
  module _ (parts : List (ℕ × List ℕ)) (all : (place : ℕ) → place < count → lookup (nat_eq place) parts ≡ Some (tail_of cut place)) where
    first_there : (n : ℕ) → n ≤ count → bytes_below parts n ≡ Some (take (n * size) cut.packet)
    first_there zero le = let none : 0 ≡ 0 * size = omega arith in ap (λ n. Some (take n cut.packet)) none
    first_there (suc n) le =
        let more : n * size + size ≡ suc n * size = omega arith in
        ap₂ (λ below tail. option_and_then (λ bytes. option_map (λ t. bytes ++ t) tail) below) (first_there n (omega (arith, le))) (all n (omega (arith, le)))
        ∙ ap (λ bytes. Some bytes) (sym (take-add (n * size) size cut.packet) ∙ ap (λ m. take m cut.packet) more)

    too_few : (c : ℕ) → suc c < count → whole_at total parts (suc c) ≡ None
    too_few c lt = ap (option_and_then (if_so_many total)) (first_there (suc c) (omega (arith, lt))) ∙ not_whole parts total (Some (take (suc c * size) cut.packet)) (shorter (suc c) lt)

    enough : (n : ℕ) → n ≡ count → whole_at total parts n ≡ Some cut.packet
    enough n is =
        let long : total ≤ n * size = subst (λ m. total ≤ m * size) (sym is) (holds cut can) in
        ap (option_and_then (if_so_many total)) (first_there n (omega (arith, is)) ∙ ap (λ bytes. Some bytes) (take_all (n * size) cut.packet long))
        ∙ just_whole parts total cut.packet refl

    pub all_there : whole_of total parts ≡ Some cut.packet
    unfolding whole_of
    all_there = go count refl
      where
        go : (n : ℕ) → n ≡ fragment_count cut.most cut.packet → whole_of (length cut.packet) parts ≡ Some cut.packet
        go zero is =
            let none : length cut.packet ≤ 0 * tail_size cut.most = subst (λ n. length cut.packet ≤ n * tail_size cut.most) (sym is) (holds cut can) in
            absurd (omega (arith, none, can.long))
        go (suc last) is =
            first_whole parts (length cut.packet) last 16 cut.packet (λ c lt. too_few c (omega (arith, lt, is))) (enough (suc last) is) (few cut can last (omega (arith, is)))

  -- ---- what came so far
  module _ (start : ℕ) (before : List PartCall) (closed : standing start (assembly before cut.me cut.number total) ≡ None) where
    -- at a moment a part of the cut goes to an assembly that was opened since the start, and has the tails of the places that came
    record HasCome (came : List PartCall) (gone : Assembly) : Type 0 where
      pub since : start ≤ gone.opened
      pub found : (place : ℕ) → lookup (nat_eq place) gone.parts ≡ cond (has_come cut came place) (Some (tail_of cut place)) None

    -- then these are tails of the cut
    has_tails : (came : List PartCall) (gone : Assembly) → HasCome came gone → HasTailsOf cut gone.parts
    has_tails came gone have place =
        subst (λ o. IfSome o (λ tail. tail ≡ tail_of cut place)) (sym (have.found place))
        (elim (has_come cut came place) as (λ b. IfSome (cond b (Some (tail_of cut place)) None) (λ tail. tail ≡ tail_of cut place)) [ true ↦ refl | false ↦ tt ])

    -- the tail of a place is there where it came, or comes
    one_place : (new place : ℕ) (come here : Bool) → nat_eq place new ≡ here → option_or (cond come (Some (tail_of cut place)) None) (cond here (Some (tail_of cut new)) None)
        ≡ cond (here || come) (Some (tail_of cut place)) None
    one_place new place true true is = refl
    one_place new place true false is = refl
    one_place new place false true is = ap (λ n. Some (tail_of cut n)) (sym (eqb-true place new is))
    one_place new place false false is = refl

    -- with a fragment more they are those of one place more
    one_came : (came : List PartCall) (gone : Assembly) (call : PartCall) → is_of_cut cut call ≡ true → HasCome came gone → HasCome (call ∷ came) (with_part call.place (tail_of cut call.place) gone)
    one_came came gone call of have = record {
      since = subst (λ moment. start ≤ moment) (sym (keeps_opening call.place (tail_of cut call.place) gone)) have.since;
      found = λ place.
          found_with place call.place (tail_of cut call.place) gone
          ∙ ap (λ o. option_or o (cond (nat_eq place call.place) (Some (tail_of cut call.place)) None)) (have.found place)
          ∙ one_place call.place place (has_come cut came place) (nat_eq place call.place) refl
          ∙ ap (λ b. cond ((b && nat_eq place call.place) || has_come cut came place) (Some (tail_of cut place)) None) (sym of);
    }

    -- a place that is missing behind a part was missing before it
    missing_before : (call : PartCall) (came : List PartCall) (place : ℕ) → has_come cut (call ∷ came) place ≡ false → has_come cut came place ≡ false
    missing_before call came place missing = go (is_of_cut cut call && nat_eq place call.place) missing
      where
        go : (b : Bool) → (b || has_come cut came place) ≡ false → has_come cut came place ≡ false
        go true is = absurd (false≢true (sym is))
        go false is = is

    -- a part from then on goes to what is open and was opened since
    goes_in_time : (now : ℕ) (gone : Assembly) → now < start + 10000 → start ≤ gone.opened → goes_to now (Some gone) ≡ gone
    goes_in_time now gone lt since = goes_on_with now gone (lt-ltb (now - gone.opened) 10000 (omega (arith, lt, since)))

    so_far : (came : List PartCall) → AreFragments cut came → AreInTime cut start came → (missing : ℕ) → missing < count → has_come cut came missing ≡ false
        → (now : ℕ) → start ≤ now → now < start + 10000 → HasCome came (goes_to now (assembly (came ++ before) cut.me cut.number total))
    so_far [] are in_time missing lt none now le within =
        let kept = assembly before cut.me cut.number total in
        let closed_then : standing now kept ≡ None = sym (standing_later now start le kept) ∙ ap (standing now) closed in
        subst (HasCome []) (sym (ap (λ o. unwrap_or o (new_assembly now)) closed_then)) (record { since = le; found = λ place. refl })
    so_far (call ∷ came) are in_time missing lt none now le within =
        go (is_of_cut cut call) refl (λ moment from to. so_far came are.1 in_time.1 missing lt (missing_before call came missing none) moment from to)
      where
        kept : Option Assembly
        kept = assembly (came ++ before) cut.me cut.number (length cut.packet)

        go : (b : Bool) → is_of_cut cut call ≡ b → ((moment : ℕ) → start ≤ moment → moment < start + 10000 → HasCome came (goes_to moment kept))
            → HasCome (call ∷ came) (goes_to now (cond b (if_not_whole (length cut.packet) (with_part call.place call.tail (goes_to call.moment kept))) kept))
        go true is rest =
            let time = in_time.0 is in
            let goes : Assembly = goes_to call.moment kept in
            let gone : Assembly = with_part call.place call.tail goes in
            let tail : tail_of cut call.place ≡ call.tail = ap (λ (c : PartCall). c.tail) (fragment_is cut call (are.0 is)).1 in
            let have : HasCome (call ∷ came) gone = subst (λ t. HasCome (call ∷ came) (with_part call.place t goes)) tail (one_came came goes call is (rest call.moment time.0 time.1)) in
            let lacks : lookup (nat_eq missing) gone.parts ≡ None = have.found missing ∙ ap (λ b. cond b (Some (tail_of cut missing)) None) none in
            let open_then : if_not_whole (length cut.packet) gone ≡ Some gone
            = ap (λ o. cond (is_some o) None (Some gone)) (some_missing gone.parts missing (has_tails (call ∷ came) gone have) lt lacks) in
            subst (HasCome (call ∷ came)) (sym (ap (goes_to now) open_then ∙ goes_in_time now gone within have.since)) have
        go false is rest =
            let have = rest now le within in
            record {
              since = have.since;
              found = λ place. have.found place ∙ ap (λ b. cond ((b && nat_eq place call.place) || has_come cut came place) (Some (tail_of cut place)) None) (sym is);
            }

    pub comes_back : (came : List PartCall) (call : PartCall) → IsLastMissing cut start before came call → made_whole call (came ++ before) ≡ Some cut.packet
    comes_back came call last =
        let is = fragment_is cut call last.is in
        let goes : Assembly = goes_to call.moment (assembly (came ++ before) cut.me cut.number total) in
        let have : HasCome came goes = so_far came last.others_are last.others_in_time call.place is.0 last.missing call.moment last.in_time.0 last.in_time.1 in
        subst (λ c. made_whole c (came ++ before) ≡ Some cut.packet) is.1
        (all_there (with_part call.place (tail_of cut call.place) goes).parts
        (λ place lt.
        found_with place call.place (tail_of cut call.place) goes
        ∙ ap (λ o. option_or o (cond (nat_eq place call.place) (Some (tail_of cut call.place)) None)) (have.found place)
        ∙ one_place call.place place (has_come cut came place) (nat_eq place call.place) refl
        ∙ ap (λ b. cond b (Some (tail_of cut place)) None) (one_of place (last.last place (omega (arith, lt, count_of_cut))))))
      where
        or_true : (b : Bool) → (b || true) ≡ true
        or_true true = refl
        or_true false = refl

        one_of : (place : ℕ) → (place ≡ call.place) ⊎ (has_come cut came place ≡ true) → (nat_eq place call.place || has_come cut came place) ≡ true
        one_of place (inl same) = ap (λ b. b || has_come cut came place) (eq-eqb place call.place same)
        one_of place (inr come) = ap (λ b. nat_eq place call.place || b) come ∙ or_true (nat_eq place call.place)

pub cuts_come_back : CutsComeBack
cuts_come_back cut start before came call can last = comes_back cut can start before last.closed came call last
