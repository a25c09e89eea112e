-- The containers that are computed from bytes are those of the grammar.
use Rattle.std.proofs.Common.{◌≡◌, ℕ, zero, suc, ◌+◌, ◌/◌, ◌%◌, ◌<◌, ◌≤◌, ◌^◌, List, [], ◌∷◌, ◌++◌, length, take, drop, refl, sym, ap, subst, ◌∙◌, arith, true, false, append_assoc}
use Rattle.std.proofs.lemmas.Bool.{ltb-false}
use Rattle.std.proofs.lemmas.List.{drop_at, drop-drop, length-drop, length-take-le, take-append-drop}
use Rattle.std.proofs.lemmas.List.Elements.{All-cons, All-drop}
use Rattle.std.proofs.lemmas.Option.{none-some}
use Rattle.std.specs.Prelude.{Bool, cond, nat_lt, Option, Some, None, All}
use Rattle.mesh_model.specs.Packets.Containers.{Container, FitsLength, AreContainers, container_spelling, containers_spelling, container_size, told_length, front_container, first_container, containers_of, rest_of}
use Rattle.mesh_tvlv.proofs.ContainersLemmas.{containers_of-some, containers_of-none}
use Rattle.mesh_tvlv.proofs.SpellingLemmas.{first-text}

-- a list of bytes
abbrev pub AreBytes : List ℕ → Type 0
AreBytes bytes = All (λ byte. byte < 2 ^ 8) bytes

-- the second choice, where it was taken
chosen : {X : Type 0} (b : Bool) (x y : X) → cond b None (Some x) ≡ Some y → (b ≡ false) × (x ≡ y)
chosen true x y is = absurd (none-some y is)
chosen false x y is = (refl, cc)

-- bytes that begin a whole container, in numbers
whole_first : (bytes : List ℕ) (c : Container) → first_container bytes ≡ Some c
    → (4 + told_length bytes ≤ length bytes) × (front_container bytes ≡ c)
whole_first bytes c is =
    let parts = chosen (nat_lt (length bytes) (4 + told_length bytes)) (front_container bytes) c is in
    (ltb-false (length bytes) (4 + told_length bytes) parts.0, parts.1)

-- bytes that begin a whole container are its spelling and more, and its length fits two bytes
record IsSpelled (bytes : List ℕ) (c : Container) : Type 0 where
  text : bytes ≡ container_spelling c ++ drop (container_size c) bytes
  fits : FitsLength c

-- the first container of bytes is spelled in them
front_spelled : (bytes : List ℕ) → AreBytes bytes → 4 + told_length bytes ≤ length bytes
    → IsSpelled bytes (front_container bytes)
front_spelled [] small whole = absurd (omega (arith, whole))
front_spelled (k ∷ []) small whole = absurd (omega (arith, whole))
front_spelled (k ∷ v ∷ []) small whole = absurd (omega (arith, whole))
front_spelled (k ∷ v ∷ h ∷ []) small whole = absurd (omega (arith, whole))
front_spelled (k ∷ v ∷ h ∷ l ∷ rest) small whole =
    let told : ℕ = told_length (k ∷ v ∷ h ∷ l ∷ rest) in
    let high : h < 256 = small 2 0 (omega arith) in
    let low : l < 256 = small 3 0 (omega arith) in
    let n : length (take told rest) ≡ told = length-take-le told rest (omega (arith, whole)) in
    let first : length (take told rest) / 256 % 256 ≡ h = omega (arith, n) in
    let second : length (take told rest) % 256 ≡ l = omega (arith, n) in
    let behind : drop (4 + length (take told rest)) (k ∷ v ∷ h ∷ l ∷ rest) ≡ drop told rest =
    sym (drop-drop (length (take told rest)) 4 (k ∷ v ∷ h ∷ l ∷ rest)) ∙ ap (λ m. drop m rest) n in
    let tail : take told rest ++ drop (4 + length (take told rest)) (k ∷ v ∷ h ∷ l ∷ rest) ≡ rest =
    ap (λ more. take told rest ++ more) behind ∙ take-append-drop told rest in
    record {
      text = sym (ap (λ more. k ∷ v ∷ length (take told rest) / 256 % 256 ∷ length (take told rest) % 256 ∷ more) tail
          ∙ ap (λ b. k ∷ v ∷ b ∷ length (take told rest) % 256 ∷ rest) first
          ∙ ap (λ b. k ∷ v ∷ h ∷ b ∷ rest) second);
      fits = omega (arith, n, high, low);
    }

-- the computed containers of bytes that begin a whole one
found_more : (bytes rest : List ℕ) (c : Container) → first_container bytes ≡ Some c → IsSpelled bytes c
    → AreContainers (drop (container_size c) bytes) (containers_of (drop (container_size c) bytes)) rest
    → AreContainers bytes (containers_of bytes) rest
found_more bytes rest c is spelled behind =
    let more : List ℕ = drop (container_size c) bytes in
    let P : List Container → Type 0 = λ cs. AreContainers bytes cs rest in
    subst P (sym (containers_of-some bytes c is)) (record {
      spelled = spelled.text ∙ ap (λ xs. container_spelling c ++ xs) behind.spelled
          ∙ sym (append_assoc (container_spelling c) (containers_spelling (containers_of more)) rest);
      each = All-cons FitsLength c (containers_of more) spelled.fits behind.each;
      cut = behind.cut;
    })

-- the computed containers of bytes that begin none
found_none : (bytes : List ℕ) → first_container bytes ≡ None → AreContainers bytes (containers_of bytes) bytes
found_none bytes is =
    let P : List Container → Type 0 = λ cs. AreContainers bytes cs bytes in
    subst P (sym (containers_of-none bytes is)) (record {
      spelled = refl;
      each = λ k d within. absurd (omega arith);
      cut = λ c more fits same. none-some c (sym is ∙ ap first_container same ∙ first-text c more fits);
    })

-- the computed containers of bytes, by the first of them, where those of fewer bytes are known
by_first : (n : ℕ) (bytes : List ℕ) → length bytes ≤ suc n → AreBytes bytes
    → ((more : List ℕ) → length more ≤ n → AreBytes more → (rest : List ℕ) × AreContainers more (containers_of more) rest)
    → (first : Option Container) → first_container bytes ≡ first
    → (rest : List ℕ) × AreContainers bytes (containers_of bytes) rest
by_first n bytes below small again None is = (bytes, found_none bytes is)
by_first n bytes below small again (Some c) is =
    let parts = whole_first bytes c is in
    let P : Container → Type 0 = λ d. IsSpelled bytes d in
    let spelled : IsSpelled bytes c = subst P parts.1 (front_spelled bytes small parts.0) in
    let behind = again (drop (container_size c) bytes) (omega (arith, length-drop (container_size c) bytes))
    (All-drop (λ byte. byte < 2 ^ 8) (container_size c) bytes small) in
    (behind.0, found_more bytes behind.0 c is spelled behind.1)

-- the computed containers of bytes, and some rest
found_some : (n : ℕ) (bytes : List ℕ) → length bytes ≤ n → AreBytes bytes
    → (rest : List ℕ) × AreContainers bytes (containers_of bytes) rest
found_some zero [] below small = ([], found_none [] refl)
found_some zero (byte ∷ bytes) below small = absurd (omega arith)
found_some (suc n) bytes below small =
    by_first n bytes below small (found_some n) (first_container bytes) refl

-- the computed containers of bytes, and the computed rest
pub found : (bytes : List ℕ) → AreBytes bytes → AreContainers bytes (containers_of bytes) (rest_of bytes)
found bytes small =
    let some = found_some (length bytes) bytes (omega arith) small in
    let rest : rest_of bytes ≡ some.0 = ap (drop (length (containers_spelling (containers_of bytes)))) some.1.spelled
    ∙ drop_at (containers_spelling (containers_of bytes)) some.0 (length (containers_spelling (containers_of bytes))) refl in
    let P : List ℕ → Type 0 = λ xs. AreContainers bytes (containers_of bytes) xs in
    subst P (sym rest) some.1
