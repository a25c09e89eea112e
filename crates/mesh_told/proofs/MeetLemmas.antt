-- A table that gets further originators of which none told.
use Rattle.std.proofs.Common.{◌≡◌, Bool, true, false, cond, ◌||◌, List, [], ◌∷◌, ◌++◌, map, filter, Some, None, IsSome, is_some, refl, sym, ap, ◌∙◌, subst}
use Rattle.std.specs.List.{list_any}
use Rattle.std.specs.List.Sorted.{IsStrictlySortedBy}
use Rattle.std.specs.Map.{keys_of, lookup}
use Rattle.std.specs.Option.{option_flatten}
use Rattle.std.proofs.lemmas.Bool.{false≢true, true≢false}
use Rattle.mesh_base.specs.declared.address.Mac.{Mac}
use Rattle.mesh_model.specs.declared.route.OrigRow.{OrigRow}
use Rattle.mesh_model.specs.Net.Watching.{routed}
use Rattle.mesh_model.specs.Routes.Addresses.{mac_order, same_mac}
use Rattle.mesh_laws.proofs.MacLemmas.{same_equiv, same_exact}
use Rattle.mesh_told.specs.Told.{HasMet, Table, next_in}

-- before the first row
pub met_none : (table : Table) → HasMet [] table table
met_none table = record { rises = λ sorted. sorted; nexts = λ orig. refl; there = λ orig none. absurd (false≢true none) }

-- the originators with a route among rows and one more
abbrev RoutedOne : OrigRow → Mac → Bool
RoutedOne row orig = cond (is_some row.next) (same_mac orig row.orig || false) false

one_more : (orig : Mac) (rows : List OrigRow) (row : OrigRow) → list_any (same_mac orig) (routed (rows ++ row ∷ [])) ≡ (list_any (same_mac orig) (routed rows) || cond (is_some row.next) (same_mac orig row.orig || false) false)
one_more orig [] row = go (is_some row.next)
  where
    go : (b : Bool) → list_any (same_mac orig) (map (λ (r : OrigRow). r.orig) (cond b (row ∷ []) [])) ≡ cond b (same_mac orig row.orig || false) false
    go true = refl
    go false = refl
one_more orig (first ∷ rows) row = go (is_some first.next) (one_more orig rows row)
  where
    go : (b : Bool) → list_any (same_mac orig) (routed (rows ++ row ∷ [])) ≡ (list_any (same_mac orig) (routed rows) || cond (is_some row.next) (same_mac orig row.orig || false) false)
        → list_any (same_mac orig) (map (λ (r : OrigRow). r.orig) (cond b (first ∷ filter (λ (r : OrigRow). is_some r.next) (rows ++ row ∷ [])) (filter (λ (r : OrigRow). is_some r.next) (rows ++ row ∷ []))))
        ≡ (list_any (same_mac orig) (map (λ (r : OrigRow). r.orig) (cond b (first ∷ filter (λ (r : OrigRow). is_some r.next) rows) (filter (λ (r : OrigRow). is_some r.next) rows))) || cond (is_some row.next) (same_mac orig row.orig || false) false)
    go true h = by (same_mac orig first.orig) h
      where
        by : (b : Bool) → list_any (same_mac orig) (routed (rows ++ row ∷ [])) ≡ (list_any (same_mac orig) (routed rows) || cond (is_some row.next) (same_mac orig row.orig || false) false)
            → (b || list_any (same_mac orig) (routed (rows ++ row ∷ []))) ≡ ((b || list_any (same_mac orig) (routed rows)) || cond (is_some row.next) (same_mac orig row.orig || false) false)
        by true h = refl
        by false h = h
    go false h = h

either : (a b : Bool) → (a || b) ≡ true → (a ≡ false → b ≡ true)
either true b e none = absurd (true≢false none)
either false b e none = e

module _ (rows : List OrigRow) (row : OrigRow) (old mid : Table) (met : HasMet rows old mid) where
  -- one of the rows before, or the one more, where that has a route
  of_either : (orig : Mac) → list_any (same_mac orig) (routed (rows ++ row ∷ [])) ≡ true
      → (list_any (same_mac orig) (routed rows) ≡ true → IsSome (lookup (same_mac orig) mid)) → (is_some row.next ≡ true → same_mac orig row.orig ≡ true → IsSome (lookup (same_mac orig) mid)) → IsSome (lookup (same_mac orig) mid)
  of_either orig has before more = go (list_any (same_mac orig) (routed rows)) refl
    where
      last : (a b : Bool) → is_some row.next ≡ a → same_mac orig row.orig ≡ b → cond a (b || false) false ≡ true → IsSome (lookup (same_mac orig) mid)
      last true true n s e = more n s
      last true false n s e = absurd (false≢true e)
      last false b n s e = absurd (false≢true e)

      go : (b : Bool) → list_any (same_mac orig) (routed rows) ≡ b → IsSome (lookup (same_mac orig) mid)
      go true is = before is
      go false is = last (is_some row.next) (same_mac orig row.orig) refl refl (either (list_any (same_mac orig) (routed rows)) _ (sym (one_more orig rows row) ∙ has) is)

  -- a row without a route, or one that has a place
  pub met_there : (is_some row.next ≡ true → IsSome (lookup (same_mac row.orig) mid)) → HasMet (rows ++ row ∷ []) old mid
  met_there placed = record {
    rises = met.rises;
    nexts = met.nexts;
    there = λ orig has. of_either orig has (met.there orig) (λ n s. subst (λ o. IsSome (lookup (same_mac o) mid)) (sym (same_exact orig row.orig s)) (placed n));
  }

  -- a row that gets a place
  pub met_new : (new : Table) → lookup (same_mac row.orig) mid ≡ None → ((q : Mac) → lookup (same_mac q) new ≡ cond (same_mac row.orig q) (Some None) (lookup (same_mac q) mid))
      → (IsStrictlySortedBy mac_order (keys_of mid) → IsStrictlySortedBy mac_order (keys_of new)) → HasMet (rows ++ row ∷ []) old new
  met_new new absent updated rises = record {
    rises = λ sorted. rises (met.rises sorted);
    nexts = λ orig. ap option_flatten (updated orig) ∙ same_next orig (same_mac row.orig orig) refl ∙ met.nexts orig;
    there = there;
  }
    where
      same_next : (q : Mac) (b : Bool) → same_mac row.orig q ≡ b → option_flatten (cond b (Some None) (lookup (same_mac q) mid)) ≡ next_in mid q
      same_next q true s = ap option_flatten (sym absent ∙ ap (λ o. lookup (same_mac o) mid) (same_exact row.orig q s))
      same_next q false s = refl

      kept : (q : Mac) (b : Bool) → IsSome (lookup (same_mac q) mid) → IsSome (cond b (Some None) (lookup (same_mac q) mid))
      kept q true h = refl
      kept q false h = h

      there : (orig : Mac) → list_any (same_mac orig) (routed (rows ++ row ∷ [])) ≡ true → IsSome (lookup (same_mac orig) new)
      there orig has = subst IsSome (sym (updated orig)) (go (list_any (same_mac orig) (routed rows)) refl)
        where
          here : (a b : Bool) → is_some row.next ≡ a → same_mac orig row.orig ≡ b → cond a (b || false) false ≡ true → IsSome (cond (same_mac row.orig orig) (Some None) (lookup (same_mac orig) mid))
          here true true n s e = ap (λ b. is_some (cond b (Some None) (lookup (same_mac orig) mid))) (same_equiv.symm row.orig orig ∙ s)
          here true false n s e = absurd (false≢true e)
          here false b n s e = absurd (false≢true e)

          go : (b : Bool) → list_any (same_mac orig) (routed rows) ≡ b → IsSome (cond (same_mac row.orig orig) (Some None) (lookup (same_mac orig) mid))
          go true is = kept orig (same_mac row.orig orig) (met.there orig is)
          go false is = here (is_some row.next) (same_mac orig row.orig) refl refl (either (list_any (same_mac orig) (routed rows)) _ (sym (one_more orig rows row) ∙ has) is)
