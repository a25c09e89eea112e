-- How the containers of bytes begin.
use Rattle.std.proofs.Common.{◌≡◌, ℕ, zero, suc, ◌≤◌, List, [], ◌∷◌, length, drop, refl, ap, arith, ◌∙◌, true, false, inl, inr}
use Rattle.std.proofs.lemmas.List.{length-drop}
use Rattle.std.specs.Prelude.{Bool, if◌then◌else◌, Option, Some, None, option_map, unwrap_or}
use Rattle.mesh_tvlv.specs.Walk.{Walk, to_come, HasEnded}
use Rattle.mesh_model.specs.Packets.Containers.{Container, container_size, first_container, first_containers, containers_of}

-- two ways to go on from an option, where they agree on its value
same_way : {A : Type 0} (o : Option A) (f g : A → List A) → ((x : A) → f x ≡ g x)
    → unwrap_or (option_map f o) [] ≡ unwrap_or (option_map g o) []
same_way None f g same = refl
same_way (Some x) f g same = same x

-- as many containers as there are bytes are all of them
enough : (n m : ℕ) (bytes : List ℕ) → length bytes ≤ n → length bytes ≤ m
    → first_containers n bytes ≡ first_containers m bytes
unfolding first_containers
enough zero zero bytes below other = refl
enough zero (suc m) [] below other = refl
enough zero (suc m) (byte ∷ bytes) below other = absurd (omega arith)
enough (suc n) zero [] below other = refl
enough (suc n) zero (byte ∷ bytes) below other = absurd (omega arith)
enough (suc n) (suc m) bytes below other = same_way (first_container bytes)
    (λ c. c ∷ first_containers n (drop (container_size c) bytes))
    (λ c. c ∷ first_containers m (drop (container_size c) bytes))
    (λ c. ap (λ cs. c ∷ cs) (enough n m (drop (container_size c) bytes)
    (omega (arith, length-drop (container_size c) bytes)) (omega (arith, length-drop (container_size c) bytes))))

-- bytes that begin a whole container are that container and those behind it
some_first : (n : ℕ) (bytes : List ℕ) (c : Container) → length bytes ≤ suc n → first_container bytes ≡ Some c
    → first_containers (suc n) bytes ≡ c ∷ containers_of (drop (container_size c) bytes)
unfolding containers_of first_containers
some_first n bytes c below is =
    let rest : List ℕ = drop (container_size c) bytes in
    ap (λ (o : Option Container). unwrap_or (option_map (λ d. d ∷ first_containers n (drop (container_size d) bytes)) o) []) is
    ∙ ap (λ cs. c ∷ cs) (enough n (length rest) rest (omega (arith, length-drop (container_size c) bytes)) (omega arith))

-- the same of all containers
pub containers_of-some : (bytes : List ℕ) (c : Container) → first_container bytes ≡ Some c
    → containers_of bytes ≡ c ∷ containers_of (drop (container_size c) bytes)
unfolding containers_of first_containers
containers_of-some [] c is = cc
containers_of-some (byte ∷ bytes) c is = some_first (length bytes) (byte ∷ bytes) c (omega arith) is

-- a walk behind its next container has the others to come
pub to_come-behind : (old : Walk) (c : Container) (left : List ℕ) (over : Bool) → old.stopped ≡ false
    → first_container old.left ≡ Some c → left ≡ drop (container_size c) old.left → over ≡ old.stopped
    → to_come old ≡ c ∷ (if over then [] else containers_of left)
to_come-behind old c left over going is after same =
    rw (after, same, going) (containers_of-some old.left c is)

-- no bytes, or short ones, are no containers
pub containers_of-none : (bytes : List ℕ) → first_container bytes ≡ None → containers_of bytes ≡ []
unfolding containers_of first_containers
containers_of-none [] is = refl
containers_of-none (byte ∷ bytes) is =
    ap (λ (o : Option Container). unwrap_or (option_map
    (λ d. d ∷ first_containers (length bytes) (drop (container_size d) (byte ∷ bytes))) o) []) is

-- a walk before no whole container has none to come
pub to_come-none : (walk : Walk) → first_container walk.left ≡ None → to_come walk ≡ []
to_come-none walk is = elim walk.stopped as (λ over. (if over then [] else containers_of walk.left) ≡ [])
    [ true ↦ refl | false ↦ containers_of-none walk.left is ]

-- a walk that has ended has none to come
pub to_come-ended : (walk : Walk) → HasEnded walk → to_come walk ≡ []
to_come-ended walk (inl at_end) = to_come-none walk (rw at_end refl)
to_come-ended walk (inr over) = rw over refl
