-- The flaw of bytes of containers, container by container.
use Rattle.std.proofs.Common.{◌≡◌, ℕ, ◌+◌, ◌<◌, List, [], ◌∷◌, length, drop, refl, sym, ap, ap₂, ◌∙◌, arith, Bool, true, false, inl, inr, length-append}
use Rattle.std.specs.Prelude.{Option, Some, None, cond, find, not, option_map}
use Rattle.std.specs.Option.{option_or}
use Rattle.std.proofs.lemmas.List.{drop-drop}
use Rattle.mesh_model.specs.declared.link_frame.TvlvErr.{TvlvErr}
use Rattle.mesh_model.specs.declared.link_frame.TvlvErr.TheVariants.{Cut}
use Rattle.mesh_model.specs.Packets.Containers.{Container, container_size, container_spelling, containers_of, containers_spelling, rest_of}
use Rattle.mesh_model.specs.Packets.Contents.{is_long_enough, bad_length, cut_before, flaw_of}
use Rattle.mesh_tvlv.specs.Walk.{Walk, to_come, behind, HasEnded}
use Rattle.mesh_tvlv.proofs.ContainersLemmas.{to_come-ended}

-- the flaw of containers that begin at this offset, with this rest behind them
abbrev flaw_among : ℕ → List Container → List ℕ → Option TvlvErr
flaw_among offset containers rest = option_or
    (option_map bad_length (find (λ container. not (is_long_enough container)) containers))
    (cut_before rest (offset + length (containers_spelling containers)))

-- the flaw of the bytes that a walk has left
abbrev flaw_left : Walk → Option TvlvErr
flaw_left walk = flaw_among walk.offset (containers_of walk.left) (rest_of walk.left)

-- a walk that came to no flaw yet
pub record IsSound (bytes : List ℕ) (walk : Walk) : Type 0 where
  pub going : walk.stopped ≡ false
  pub same : flaw_of bytes ≡ flaw_left walk

-- at the start
pub sound-start : (bytes : List ℕ) → IsSound bytes (record { left = bytes; offset = 0; stopped = false })
sound-start bytes = record {
  going = refl;
  same = ap (λ (n : ℕ). option_or (option_map bad_length (find (λ container. not (is_long_enough container)) (containers_of bytes)))
      (cut_before (rest_of bytes) n)) (omega arith);
}

-- the containers that are left where the walk goes on
left_are : (walk : Walk) (containers : List Container) → walk.stopped ≡ false → to_come walk ≡ containers → containers_of walk.left ≡ containers
left_are walk containers going come = rw going at come

skip : (long : Bool) (first : Container) (others : Option Container) → long ≡ true → cond (not long) (Some first) others ≡ others
skip true first others is = refl
skip false first others is = absurd cc

-- behind a container that is long enough
pub sound-behind : (bytes : List ℕ) (walk next : Walk) (c : Container) → IsSound bytes walk → to_come walk ≡ c ∷ to_come next → next ≡ behind walk c
    → is_long_enough c ≡ true → IsSound bytes next
sound-behind bytes walk next c is come goes long =
    let going : next.stopped ≡ false = ap (λ (w : Walk). w.stopped) goes ∙ is.going in
    let all = left_are walk (c ∷ to_come next) is.going come in
    let others : to_come next ≡ containers_of next.left = rw going refl in
    let cs = containers_of next.left in
    let whole : containers_of walk.left ≡ c ∷ cs = all ∙ ap (λ more. c ∷ more) others in
    let left : next.left ≡ drop (container_size c) walk.left = ap (λ (w : Walk). w.left) goes in
    let offset : next.offset ≡ walk.offset + container_size c = ap (λ (w : Walk). w.offset) goes in
    let size : length (containers_spelling (c ∷ cs)) ≡ container_size c + length (containers_spelling cs) = omega (arith, length-append (container_spelling c) (containers_spelling cs)) in
    let rest : rest_of walk.left ≡ rest_of next.left = ap (λ (all : List Container). drop (length (containers_spelling all)) walk.left) whole
    ∙ ap (λ (n : ℕ). drop n walk.left) size ∙ sym (drop-drop (length (containers_spelling cs)) (container_size c) walk.left)
    ∙ ap (λ (xs : List ℕ). drop (length (containers_spelling cs)) xs) (sym left) in
    record {
      going = going;
      same = is.same ∙ ap₂ (flaw_among walk.offset) whole rest
          ∙ ap₂ (λ (found : Option Container) (n : ℕ). option_or (option_map bad_length found) (cut_before (rest_of next.left) n))
          (skip (is_long_enough c) c (find (λ container. not (is_long_enough container)) cs) long) (omega (arith, size, offset));
    }

found : (long : Bool) (first : Container) (others : Option Container) → long ≡ false → cond (not long) (Some first) others ≡ Some first
found true first others is = absurd cc
found false first others is = refl

-- at a container that is too short
pub flaw-short : (bytes : List ℕ) (walk next : Walk) (c : Container) → IsSound bytes walk → to_come walk ≡ c ∷ to_come next → is_long_enough c ≡ false
    → flaw_of bytes ≡ Some (bad_length c)
flaw-short bytes walk next c is come short =
    is.same ∙ ap (λ (all : List Container). flaw_among walk.offset all (rest_of walk.left)) (left_are walk (c ∷ to_come next) is.going come)
    ∙ ap (λ (f : Option Container). option_or (option_map bad_length f) (cut_before (rest_of walk.left) (walk.offset + length (containers_spelling (c ∷ to_come next)))))
    (found (is_long_enough c) c (find (λ container. not (is_long_enough container)) (to_come next)) short)

cut_some : (rest : List ℕ) (offset : ℕ) → 0 < length rest → cut_before rest offset ≡ Some (Cut offset)
cut_some [] offset some = absurd (omega (arith, some))
cut_some (byte ∷ bytes) offset some = refl

-- where no container is left
none_left : (bytes : List ℕ) (walk : Walk) → IsSound bytes walk → to_come walk ≡ [] → flaw_of bytes ≡ cut_before walk.left (walk.offset + 0)
none_left bytes walk is none =
    let none_of = left_are walk [] is.going none in
    is.same ∙ ap (λ (all : List Container). flaw_among walk.offset all (drop (length (containers_spelling all)) walk.left)) none_of

-- before a cut
pub flaw-cut : (bytes : List ℕ) (walk : Walk) → IsSound bytes walk → to_come walk ≡ [] → 0 < length walk.left → flaw_of bytes ≡ Some (Cut walk.offset)
flaw-cut bytes walk is none some =
    none_left bytes walk is none ∙ cut_some walk.left (walk.offset + 0) some ∙ ap (λ (n : ℕ). Some (Cut n)) (omega arith)

-- at the end
pub flaw-none : (bytes : List ℕ) (walk : Walk) → IsSound bytes walk → HasEnded walk → flaw_of bytes ≡ None
flaw-none bytes walk is ended =
    let left : walk.left ≡ [] = elim ended [ inl done ↦ done | inr stopped ↦ absurd (let e = is.going in cc) ] in
    none_left bytes walk is (to_come-ended walk ended) ∙ ap (λ (l : List ℕ). cut_before l (walk.offset + 0)) left
