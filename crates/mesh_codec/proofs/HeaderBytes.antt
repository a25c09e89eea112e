-- The bytes of a header that is written in one piece.
use Rattle.std.proofs.Common.{◌≡◌, ◌∙◌, ◌%◌, ◌<◌, ℕ, List, [], ◌∷◌, ◌++◌, length, slice_index_or, refl, ap, arith}
use Rattle.std.specs.Int.{bytes_high_first}

-- six bytes one by one are an address
six : (mac rest : List ℕ) → length mac ≡ 6
    → slice_index_or mac 0 0 ∷ slice_index_or mac 1 0 ∷ slice_index_or mac 2 0 ∷ slice_index_or mac 3 0 ∷ slice_index_or mac 4 0 ∷ slice_index_or mac 5 0 ∷ rest ≡ mac ++ rest
six (a ∷ b ∷ c ∷ d ∷ e ∷ f ∷ []) rest len = refl
six [] rest len = absurd (omega (arith, len))
six (a ∷ []) rest len = absurd (omega (arith, len))
six (a ∷ b ∷ []) rest len = absurd (omega (arith, len))
six (a ∷ b ∷ c ∷ []) rest len = absurd (omega (arith, len))
six (a ∷ b ∷ c ∷ d ∷ []) rest len = absurd (omega (arith, len))
six (a ∷ b ∷ c ∷ d ∷ e ∷ []) rest len = absurd (omega (arith, len))
six (a ∷ b ∷ c ∷ d ∷ e ∷ f ∷ g ∷ more) rest len = absurd (omega (arith, len))

byte_is : (x : ℕ) → x < 256 → x ≡ x % 256
byte_is x small = omega (arith, small)

-- those of an originator message of algorithm IV are its parts
pub iv_ogm_is : (ttl flags seq tq told : ℕ) (orig prev s t : List ℕ) → ttl < 256 → flags < 256 → tq < 256 → s ≡ bytes_high_first 4 seq → t ≡ bytes_high_first 2 told → length orig ≡ 6 → length prev ≡ 6
    → 0 ∷ 15 ∷ ttl ∷ flags ∷ slice_index_or s 0 0 ∷ slice_index_or s 1 0 ∷ slice_index_or s 2 0 ∷ slice_index_or s 3 0
    ∷ slice_index_or orig 0 0 ∷ slice_index_or orig 1 0 ∷ slice_index_or orig 2 0 ∷ slice_index_or orig 3 0 ∷ slice_index_or orig 4 0 ∷ slice_index_or orig 5 0
    ∷ slice_index_or prev 0 0 ∷ slice_index_or prev 1 0 ∷ slice_index_or prev 2 0 ∷ slice_index_or prev 3 0 ∷ slice_index_or prev 4 0 ∷ slice_index_or prev 5 0
    ∷ 0 ∷ tq ∷ slice_index_or t 0 0 ∷ slice_index_or t 1 0 ∷ []
    ≡ 0 ∷ 15 ∷ ttl % 256 ∷ flags % 256 ∷ bytes_high_first 4 seq ++ (orig ++ (prev ++ 0 ∷ tq % 256 ∷ bytes_high_first 2 told))
iv_ogm_is ttl flags seq tq told orig prev s t low few slow s_is t_is orig_six prev_six =
    let end = 0 ∷ tq ∷ bytes_high_first 2 told in
    rw (s_is, t_is, ← byte_is ttl low, ← byte_is flags few, ← byte_is tq slow)
    (ap (λ l. 0 ∷ 15 ∷ ttl ∷ flags ∷ bytes_high_first 4 seq ++ l) (six orig _ orig_six ∙ ap (λ l. orig ++ l) (six prev end prev_six)))
