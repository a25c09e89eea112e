-- The throughputs of the links back, after a link joined.
use Rattle.std.proofs.Common.{◌≡◌, ℕ, zero, suc, ◌+◌, nat_eq, ◌&&◌, Bool, true, false, if◌then◌else◌, List, [], ◌∷◌, ◌++◌, map, take, find, slice_get, slice_set, Option, Some, None, refl, subst, sym, ap, ap₂, ◌∙◌, arith, ⊎_elim}
use Rattle.std.specs.Option.{option_map_or, option_or}
use Rattle.std.proofs.lemmas.Bool.{and_parts, cases_eq, eqb-true, eq-eqb, ne_eqb}
use Rattle.std.proofs.lemmas.List.Folds.{find-append}
use Rattle.mesh_post.specs.declared.row.Row.{Row}
use Rattle.mesh_post.specs.Inner.Links.{back_among, backs_of, between, noted, throughput_of}

-- ---- a throughput is noted beside one link more, where that passes the test
noted_next : (test : Row → Bool) (tp : ℕ) (rows : List Row) (numbers : List ℕ) (i : ℕ) (row : Row) (b : Bool) → slice_get rows i ≡ Some row → test row ≡ b → noted test tp (take (suc i) rows) numbers ≡ (if b then slice_set (noted test tp (take i rows) numbers) i tp else noted test tp (take i rows) numbers)
noted_next test tp [] numbers i row b e t = cc
noted_next test tp (x ∷ xs) [] zero row true e t = refl
noted_next test tp (x ∷ xs) [] zero row false e t = refl
noted_next test tp (x ∷ xs) [] (suc i) row true e t = refl
noted_next test tp (x ∷ xs) [] (suc i) row false e t = refl
noted_next test tp (x ∷ xs) (n ∷ ns) zero row true e t = cc
noted_next test tp (x ∷ xs) (n ∷ ns) zero row false e t = cc
noted_next test tp (x ∷ xs) (n ∷ ns) (suc i) row true e t = ap (λ l. (if test x then tp else n) ∷ l) (noted_next test tp xs ns i row true e t)
noted_next test tp (x ∷ xs) (n ∷ ns) (suc i) row false e t = ap (λ l. (if test x then tp else n) ∷ l) (noted_next test tp xs ns i row false e t)

place_after : (i : ℕ) → i + 1 ≡ suc i
place_after i = omega arith

pub noted_more : (test : Row → Bool) (tp : ℕ) (rows : List Row) (numbers : List ℕ) (i : ℕ) (row : Row) (b : Bool) → slice_get rows i ≡ Some row → test row ≡ b → noted test tp (take (i + 1) rows) numbers ≡ (if b then slice_set (noted test tp (take i rows) numbers) i tp else noted test tp (take i rows) numbers)
noted_more test tp rows numbers i row b e t = ap (λ k. noted test tp (take k rows) numbers) (place_after i) ∙ noted_next test tp rows numbers i row b e t

-- ---- what is noted is the throughput of each link back
noted_each : (test : Row → Bool) (tp : ℕ) (f g : Row → ℕ) (xs : List Row) (last : Row) → ((x : Row) → (if test x then tp else f x) ≡ g x) → (if test last then tp else g last) ≡ g last → noted test tp (xs ++ last ∷ []) (map f xs ++ g last ∷ []) ≡ map g (xs ++ last ∷ [])
noted_each test tp f g [] last each own = ap (λ n. n ∷ []) own
noted_each test tp f g (x ∷ xs) last each own = ap₂ (λ n ns. n ∷ ns) (each x) (noted_each test tp f g xs last each own)

eq_turned : (a b : ℕ) → nat_eq a b ≡ nat_eq b a
eq_turned a b = ⊎_elim (λ e. eq-eqb a b e ∙ sym (eq-eqb b a (sym e))) (λ n. ne_eqb a b n ∙ sym (ne_eqb b a (λ e. n (sym e)))) (cases_eq a b)

and_turned : (p q : Bool) → (p && q) ≡ (q && p)
and_turned true true = refl
and_turned true false = refl
and_turned false true = refl
and_turned false false = refl

between_turned : (x row : Row) → between x.to x.from row ≡ between row.to row.from x
between_turned x row = ap₂ (λ p q. p && q) (eq_turned row.from x.to) (eq_turned row.to x.from) ∙ and_turned (nat_eq x.to row.from) (nat_eq x.from row.to)

or_none : {X : Type 0} (o : Option X) → option_or o None ≡ o
or_none None = refl
or_none (Some x) = refl

by_ends : (rows : List Row) (row x : Row) (b : Bool) → between row.to row.from x ≡ b → (if b then throughput_of row.from row.to (rows ++ row ∷ []) else throughput_of x.to x.from rows) ≡ throughput_of x.to x.from (rows ++ row ∷ [])
by_ends rows row x true e =
    let ends = and_parts (nat_eq x.from row.to) (nat_eq x.to row.from) e in
    ap₂ (λ from to. throughput_of from to (rows ++ row ∷ [])) (sym (eqb-true x.to row.from ends.1)) (sym (eqb-true x.from row.to ends.0))
by_ends rows row x false e =
    let first = find (between x.to x.from) rows in
    ap (λ o. option_map_or (λ (r : Row). r.tp) o 0)
    (sym (find-append (between x.to x.from) rows (row ∷ []) ∙ ap (λ b. option_or first (if b then Some row else None)) (between_turned x row ∙ e) ∙ or_none first))

by_own_ends : (rows : List Row) (row : Row) (b : Bool) → between row.to row.from row ≡ b → (if b then throughput_of row.from row.to rows else throughput_of row.to row.from rows) ≡ throughput_of row.to row.from rows
by_own_ends rows row true e =
    let ends = and_parts (nat_eq row.from row.to) (nat_eq row.to row.from) e in
    ap₂ (λ from to. throughput_of from to rows) (eqb-true row.from row.to ends.0) (eqb-true row.to row.from ends.1)
by_own_ends rows row false e = refl

backs_more : (rows : List Row) (row : Row) → noted (between row.to row.from) (throughput_of row.from row.to (rows ++ row ∷ [])) (rows ++ row ∷ []) (backs_of rows ++ throughput_of row.to row.from (rows ++ row ∷ []) ∷ []) ≡ backs_of (rows ++ row ∷ [])
backs_more rows row =
    let all = rows ++ row ∷ [] in
    noted_each (between row.to row.from) (throughput_of row.from row.to all) (back_among rows) (back_among all) rows row
    (λ x. by_ends rows row x (between row.to row.from x) refl)
    (by_own_ends all row (between row.to row.from row) refl)

pub backs_linked : (rows : List Row) (row : Row) (all : List Row) (backs : List ℕ) (there back : ℕ) → all ≡ rows ++ row ∷ [] → backs ≡ backs_of rows → there ≡ throughput_of row.from row.to all → back ≡ throughput_of row.to row.from all → noted (between row.to row.from) there all (backs ++ back ∷ []) ≡ backs_of all
backs_linked rows row all backs there back more old t b =
    ap (λ n. noted (between row.to row.from) n all (backs ++ back ∷ [])) t
    ∙ ap (λ n. noted (between row.to row.from) (throughput_of row.from row.to all) all (backs ++ n ∷ [])) b
    ∙ ap (λ ns. noted (between row.to row.from) (throughput_of row.from row.to all) all (ns ++ throughput_of row.to row.from all ∷ [])) old
    ∙ subst (λ now. noted (between row.to row.from) (throughput_of row.from row.to now) now (backs_of rows ++ throughput_of row.to row.from now ∷ []) ≡ backs_of now) (sym more) (backs_more rows row)
