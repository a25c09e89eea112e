-- Spelled containers are read back, and bytes are one list of containers.
use Rattle.std.proofs.Common.{◌≡◌, ℕ, suc, ◌+◌, List, [], ◌∷◌, ◌++◌, length, take, drop, refl, sym, ap, ◌∙◌, arith, false, append_assoc, append-nil, length-append}
use Rattle.std.proofs.lemmas.Bool.{le-ltb}
use Rattle.std.proofs.lemmas.List.{drop_at, drop_all}
use Rattle.std.proofs.Math.Seq.{take-append_seam}
use Rattle.std.specs.Prelude.{Bool, cond, nat_lt, Some, None, All}
use Rattle.byteorder.specs.Numbers.{big_number-reads_back}
use Rattle.mesh_model.specs.Packets.Containers.{Container, FitsLength, BeginsNone, AreContainers, container_spelling, containers_spelling, container_size, told_length, front_container, first_container, containers_of, rest_of}
use Rattle.mesh_tvlv.proofs.ContainersLemmas.{containers_of-some, containers_of-none}

-- the length that a spelled container tells
told-text : (c : Container) (more : List ℕ) → FitsLength c
    → told_length (container_spelling c ++ more) ≡ length c.body
told-text c more fits = big_number-reads_back 2 (length c.body) (c.body ++ more) fits

-- the first container of a spelled one and more
pub first-text : (c : Container) (more : List ℕ) → FitsLength c
    → first_container (container_spelling c ++ more) ≡ Some c
first-text c more fits =
    let told = told-text c more fits in
    let text : List ℕ = container_spelling c ++ more in
    let whole : nat_lt (length text) (4 + told_length text) ≡ false =
    le-ltb (length text) (4 + told_length text) (omega (arith, told, length-append c.body more)) in
    let body : take (told_length text) (c.body ++ more) ≡ c.body =
    ap (λ n. take n (c.body ++ more)) told ∙ take-append_seam c.body more in
    ap (λ (b : Bool). cond b None (Some (front_container text))) whole
    ∙ ap (λ (bytes : List ℕ). Some (let d : Container = record { kind = c.kind; version = c.version; body = bytes } in d)) body

-- behind a spelled container
behind-text : (c : Container) (more : List ℕ) → drop (container_size c) (container_spelling c ++ more) ≡ more
behind-text c more = drop_at (container_spelling c) more (container_size c) (omega arith)

-- a spelled container is the first one
containers_of-text : (c : Container) (more : List ℕ) → FitsLength c
    → containers_of (container_spelling c ++ more) ≡ c ∷ containers_of more
containers_of-text c more fits =
    containers_of-some (container_spelling c ++ more) c (first-text c more fits)
    ∙ ap (λ bytes. c ∷ containers_of bytes) (behind-text c more)

-- what holds of each holds of those behind the first
pub All-tail : {X : Type 0} (P : X → Type 0) (x : X) (xs : List X) → All P (x ∷ xs) → All P xs
All-tail P x xs all = λ k d within. all (suc k) d (omega arith)

-- spelled containers are the first ones
pub containers_of-texts : (cs : List Container) (more : List ℕ) → All FitsLength cs
    → containers_of (containers_spelling cs ++ more) ≡ cs ++ containers_of more
containers_of-texts [] more fits = refl
containers_of-texts (c ∷ cs) more fits =
    ap containers_of (append_assoc (container_spelling c) (containers_spelling cs) more)
    ∙ containers_of-text c (containers_spelling cs ++ more) (fits 0 c (omega arith))
    ∙ ap (λ ds. c ∷ ds) (containers_of-texts cs more (All-tail FitsLength c cs fits))

-- spelled containers are read back
pub read_back : (cs : List Container) → All FitsLength cs
    → (containers_of (containers_spelling cs) ≡ cs) × (rest_of (containers_spelling cs) ≡ [])
read_back cs fits =
    let all : containers_of (containers_spelling cs) ≡ cs =
    ap containers_of (sym (append-nil (containers_spelling cs))) ∙ containers_of-texts cs [] fits
    ∙ ap (λ ds. cs ++ ds) (containers_of-none [] refl) ∙ append-nil cs in (
      all,
      ap (λ ds. drop (length (containers_spelling ds)) (containers_spelling cs)) all
          ∙ drop_all (length (containers_spelling cs)) (containers_spelling cs) (omega arith),
    )

-- two containers at the front of the same bytes are one, and so is what is behind them
same_front : (c d : Container) (more other : List ℕ) → FitsLength c → FitsLength d
    → container_spelling c ++ more ≡ container_spelling d ++ other → (c ≡ d) × (more ≡ other)
same_front c d more other fits fitted same =
    let both : Some c ≡ Some d = sym (first-text c more fits) ∙ ap first_container same ∙ first-text d other fitted in
    let one : c ≡ d = cc in (
      one,
      sym (behind-text c more) ∙ ap (drop (container_size c)) same
          ∙ ap (λ e. drop (container_size e) (container_spelling d ++ other)) one ∙ behind-text d other,
    )

-- spelled containers and a rest that begins none are no others
same_texts : (cs ds : List Container) (rest other : List ℕ) → All FitsLength cs → All FitsLength ds
    → BeginsNone rest → BeginsNone other → containers_spelling cs ++ rest ≡ containers_spelling ds ++ other
    → (cs ≡ ds) × (rest ≡ other)
same_texts [] [] rest other fits fitted cut ended same = (refl, same)
same_texts [] (d ∷ ds) rest other fits fitted cut ended same =
    absurd (cut d (containers_spelling ds ++ other) (fitted 0 d (omega arith))
    (same ∙ append_assoc (container_spelling d) (containers_spelling ds) other))
same_texts (c ∷ cs) [] rest other fits fitted cut ended same =
    absurd (ended c (containers_spelling cs ++ rest) (fits 0 c (omega arith))
    (sym same ∙ append_assoc (container_spelling c) (containers_spelling cs) rest))
same_texts (c ∷ cs) (d ∷ ds) rest other fits fitted cut ended same =
    let fronts = same_front c d (containers_spelling cs ++ rest) (containers_spelling ds ++ other)
    (fits 0 c (omega arith)) (fitted 0 d (omega arith))
    (sym (append_assoc (container_spelling c) (containers_spelling cs) rest) ∙ same
    ∙ append_assoc (container_spelling d) (containers_spelling ds) other) in
    let backs = same_texts cs ds rest other (All-tail FitsLength c cs fits) (All-tail FitsLength d ds fitted)
    cut ended fronts.1 in
    (ap (λ e. e ∷ cs) fronts.0 ∙ ap (λ es. d ∷ es) backs.0, backs.1)

-- bytes are one list of containers
pub unique : (bytes : List ℕ) (cs ds : List Container) (rest other : List ℕ)
    → AreContainers bytes cs rest → AreContainers bytes ds other → (cs ≡ ds) × (rest ≡ other)
unique bytes cs ds rest other some others =
    same_texts cs ds rest other some.each others.each some.cut others.cut (sym some.spelled ∙ others.spelled)
