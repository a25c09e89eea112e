-- Sendings by their bytes and their roots: the one at a place, and one more behind them.
use Rattle.std.proofs.Common.{◌≡◌, ℕ, zero, suc, ◌<◌, List, [], ◌∷◌, ◌++◌, length, get_or, slice_get, slice_index_or, Some, refl, sym, ap, arith}
use Rattle.mesh_net.specs.Kept.{sendings_of}

-- there are as many as roots
pub sendings_count : (fs : List (List ℕ)) (rs : List ℕ) → length rs ≡ length fs
    → length (sendings_of fs rs) ≡ length rs
sendings_count [] [] e = refl
sendings_count [] (r ∷ rs) e = absurd (omega (arith, e))
sendings_count (f ∷ fs) [] e = absurd (omega (arith, e))
sendings_count (f ∷ fs) (r ∷ rs) e = ap suc (sendings_count fs rs (omega (arith, e)))

-- one more stands behind the others
pub sendings_pushed : (fs : List (List ℕ)) (rs : List ℕ) (b : List ℕ) (r : ℕ)
    → length rs ≡ length fs → sendings_of (fs ++ b ∷ []) (rs ++ r ∷ [])
    ≡ sendings_of fs rs ++ record { root = r; bytes = b } ∷ []
sendings_pushed [] [] b r e = refl
sendings_pushed [] (x ∷ rs) b r e = absurd (omega (arith, e))
sendings_pushed (f ∷ fs) [] b r e = absurd (omega (arith, e))
sendings_pushed (f ∷ fs) (x ∷ rs) b r e =
    ap (λ ss. record { root = x; bytes = f } ∷ ss) (sendings_pushed fs rs b r (omega (arith, e)))

-- the one at a place
pub sending_at : (fs : List (List ℕ)) (rs : List ℕ) (i r : ℕ) → length rs ≡ length fs
    → i < length rs → r ≡ get_or rs i r → slice_get (sendings_of fs rs) i
    ≡ Some (record { root = r; bytes = slice_index_or fs i [] })
sending_at [] [] i r e l is = absurd (omega (arith, l))
sending_at [] (x ∷ rs) i r e l is = absurd (omega (arith, e))
sending_at (f ∷ fs) [] i r e l is = absurd (omega (arith, e))
sending_at (f ∷ fs) (x ∷ rs) zero r e l is =
    ap (λ root. Some (record { root = root; bytes = f })) (sym is)
sending_at (f ∷ fs) (x ∷ rs) (suc i) r e l is =
    sending_at fs rs i r (omega (arith, e)) (omega (arith, l)) is
