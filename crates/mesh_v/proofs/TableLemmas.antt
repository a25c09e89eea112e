-- The keys of the table of originators: those heard, and the senders of ELPs.
use Rattle.std.proofs.Common.{◌≡◌, Bool, true, false, cond, ◌&&◌, ◌||◌, List, [], ◌∷◌, filter, filter_map, is_some, Option, Some, None, refl, sym, ap, ap₂, ◌∙◌, Less, ℕ}
use Rattle.std.specs.List.{AllByRecursion, cons_option, list_any}
use Rattle.std.specs.List.Sorted.{IsStrictlySortedBy}
use Rattle.std.specs.Map.{keys_of}
use Rattle.std.proofs.lemmas.Bool.{true≢false}
use Rattle.mesh_base.specs.declared.address.Mac.{Mac}
use Rattle.mesh_model.specs.Routes.Addresses.{insert_mac, mac_order, same_mac}
use Rattle.mesh_model.specs.Routes.AlgorithmV.{v_life, v_score}
use Rattle.mesh_model.specs.Routes.BestRoute.{orig_row}
use Rattle.mesh_model.specs.Routes.HearingsV.{heard_v}
use Rattle.mesh_model.specs.Routes.Life.{HeardOgm, of, life, is_live, heard_originators}
use Rattle.mesh_model.specs.Routes.Neighbours.{ElpHeard, elp_senders, is_own_elp, last_elp, row_by_elp}
use Rattle.mesh_model.specs.Routes.Ogm2.{elp_of_head}
use Rattle.mesh_model.specs.Routes.RouteLog.{RouteLog, OwnTick, HeadCame}
use Rattle.mesh_laws.proofs.MacLemmas.{same_exact, same_equiv}
use Rattle.mesh_algo.specs.declared.life.Life.{Life}
use Rattle.mesh_algo.specs.LifeRows.{latest, life_row}
use Rattle.mesh_algo.proofs.LifeRows.{any_key, some_row}
use Rattle.mesh_algo.proofs.OrigLemmas.{any_inserted, keys_are_heard, same_keys, sorted_insert}
use Rattle.mesh_v.specs.declared.row.LastElp.{LastElp}
use Rattle.mesh_v.specs.Rows.{elp_row, orig_with}
use Rattle.mesh_v.specs.Tables.{StandsFor, Tables, orig_at}

-- ---- some of the keys
module _ (p : Mac → Bool) where
  above_some : (k : Mac) (ks : List Mac) → AllByRecursion (λ y. mac_order k y ≡ Less) ks → AllByRecursion (λ y. mac_order k y ≡ Less) (filter p ks)
  above_some k [] above = tt
  above_some k (first ∷ ks) above =
      elim (p first) as (λ b. AllByRecursion (λ y. mac_order k y ≡ Less) (cond b (first ∷ filter p ks) (filter p ks))) [
        | true ↦ (above.0, above_some k ks above.1)
        | false ↦ above_some k ks above.1
      ]

  sorted_some : (ks : List Mac) → IsStrictlySortedBy mac_order ks → IsStrictlySortedBy mac_order (filter p ks)
  unfolding IsStrictlySortedBy
  sorted_some [] sorted = tt
  sorted_some (first ∷ ks) sorted =
      elim (p first) as (λ b. IsStrictlySortedBy mac_order (cond b (first ∷ filter p ks) (filter p ks))) [
        | true ↦ (above_some first ks sorted.0, sorted_some ks sorted.1)
        | false ↦ sorted_some ks sorted.1
      ]

  and_step : (s a x : Bool) → (s ≡ true → a ≡ x) → (rest any : Bool) → any ≡ (rest && x) → cond a (s || any) any ≡ ((s || rest) && x)
  and_step true true x same rest any e = same refl
  and_step true false x same rest any e = e ∙ ap (λ y. rest && y) (sym (same refl)) ∙ no_more rest ∙ same refl
    where
      no_more : (b : Bool) → (b && false) ≡ false
      no_more true = refl
      no_more false = refl
  and_step false true x same rest any e = e
  and_step false false x same rest any e = e

  any_cond : (q first : Mac) (b : Bool) (l : List Mac) → list_any (same_mac q) (cond b (first ∷ l) l) ≡ cond b (same_mac q first || list_any (same_mac q) l) (list_any (same_mac q) l)
  any_cond q first true l = refl
  any_cond q first false l = refl

  any_some : (q : Mac) (ks : List Mac) → list_any (same_mac q) (filter p ks) ≡ (list_any (same_mac q) ks && p q)
  any_some q [] = refl
  any_some q (first ∷ ks) =
      any_cond q first (p first) (filter p ks)
      ∙ and_step (same_mac q first) (p first) (p q) (λ s. ap p (sym (same_exact q first s))) (list_any (same_mac q) ks) (list_any (same_mac q) (filter p ks)) (any_some q ks)

  -- what is made of the others is nothing
  pub kept_map : {Y : Type 0} (f : Mac → Option Y) (ks : List Mac) → ((k : Mac) → p k ≡ false → f k ≡ None) → filter_map f ks ≡ filter_map f (filter p ks)
  kept_map f [] none = refl
  kept_map f (k ∷ ks) none =
      ap (cons_option (f k)) (kept_map f ks none)
      ∙ elim (p k) as (λ b. p k ≡ b → cons_option (f k) (filter_map f (filter p ks)) ≡ filter_map f (cond b (k ∷ filter p ks) (filter p ks))) [
        | true ↦ λ t. refl
        | false ↦ λ t. ap (λ o. cons_option o (filter_map f (filter p ks))) (none k t)
      ] refl

-- ---- senders of ELPs
sorted_if : (b : Bool) (k : Mac) (ks : List Mac) → IsStrictlySortedBy mac_order ks → IsStrictlySortedBy mac_order (cond b (insert_mac k ks) ks)
sorted_if true k ks sorted = sorted_insert k ks sorted
sorted_if false k ks sorted = sorted

sorted_senders : (log : RouteLog) → IsStrictlySortedBy mac_order (elp_senders log)
unfolding IsStrictlySortedBy
sorted_senders [] = tt
sorted_senders (OwnTick moment index ∷ older) = sorted_senders older
sorted_senders (HeadCame moment from throughput head ∷ older) = sorted_if (is_own_elp from (elp_of_head head)) from (elp_senders older) (sorted_senders older)

sender_step : (b s : Bool) (any : Bool) (elp : ElpHeard) (rest : Option ElpHeard) → any ≡ is_some rest → cond b (s || any) any ≡ is_some (cond (b && s) (Some elp) rest)
sender_step true true any elp rest e = refl
sender_step true false any elp rest e = e
sender_step false s any elp rest e = e

any_if : (b : Bool) (q k : Mac) (ks : List Mac) → list_any (same_mac q) (cond b (insert_mac k ks) ks) ≡ cond b (same_mac q k || list_any (same_mac q) ks) (list_any (same_mac q) ks)
any_if true q k ks = any_inserted q k ks
any_if false q k ks = refl

-- a neighbour is among them exactly where an ELP of it came
any_sender : (q : Mac) (log : RouteLog) → list_any (same_mac q) (elp_senders log) ≡ is_some (last_elp q log)
any_sender q [] = refl
any_sender q (OwnTick moment index ∷ older) = any_sender q older
any_sender q (HeadCame moment from throughput head ∷ older) =
    any_if (is_own_elp from (elp_of_head head)) q from (elp_senders older)
    ∙ ap (λ s. cond (is_own_elp from (elp_of_head head)) (s || list_any (same_mac q) (elp_senders older)) (list_any (same_mac q) (elp_senders older))) (same_equiv.symm q from)
    ∙ sender_step (is_own_elp from (elp_of_head head)) (same_mac from q) (list_any (same_mac q) (elp_senders older)) (record { moment = moment; throughput = throughput }) (last_elp q older) (any_sender q older)

-- ---- the keys of a table
live_is_kept : (alive : Option Life) (elp : Option LastElp) → (is_some (orig_with alive elp) && is_some alive) ≡ is_some alive
live_is_kept None None = refl
live_is_kept None (Some elp) = refl
live_is_kept (Some row) elp = refl

elp_is_kept : (alive : Option Life) (elp : Option ElpHeard) → (is_some (orig_with alive (elp_row elp)) && is_some elp) ≡ is_some elp
elp_is_kept None None = refl
elp_is_kept None (Some elp) = refl
elp_is_kept (Some row) None = refl
elp_is_kept (Some row) (Some elp) = refl

none_live : (hearings : List HeardOgm) → is_live hearings ≡ false → hearings ≡ []
none_live [] e = refl
none_live (h ∷ older) e = absurd (true≢false e)

none_came : (elp : Option ElpHeard) → is_some elp ≡ false → elp ≡ None
none_came None e = refl
none_came (Some elp) e = absurd (true≢false e)

module _ (me : Mac) (tables : Tables) (log : RouteLog) (stands : StandsFor me tables log) where
  abbrev ks : List Mac
  ks = keys_of tables.origs

  has_key : (q : Mac) → list_any (same_mac q) ks ≡ is_some (orig_at (heard_v me log) log q)
  has_key q = any_key q tables.origs ∙ ap (λ r. is_some r) (stands.origs_stand.are q)

  abbrev live : Mac → Bool
  live q = is_live (of q (heard_v me log))

  abbrev sent : Mac → Bool
  sent q = is_some (last_elp q log)

  live_keys : filter live ks ≡ heard_originators (heard_v me log)
  live_keys =
      keys_are_heard (filter live ks) (heard_v me log) (sorted_some live ks stands.origs_stand.rise)
      (λ q. any_some live q ks ∙ ap₂ (λ a b. a && b) (has_key q) (sym (some_row (of q (heard_v me log))))
      ∙ live_is_kept (life_row (latest (of q (heard_v me log)))) (elp_row (last_elp q log)) ∙ some_row (of q (heard_v me log)))

  sender_keys : filter sent ks ≡ elp_senders log
  sender_keys =
      same_keys (filter sent ks) (elp_senders log) (sorted_some sent ks stands.origs_stand.rise) (sorted_senders log)
      (λ q. any_some sent q ks ∙ ap (λ a. a && sent q) (has_key q)
      ∙ elp_is_kept (life_row (latest (of q (heard_v me log)))) (last_elp q log) ∙ sym (any_sender q log))

  -- the rows of live originators are those of the originators heard
  pub orig_rows : (moment : ℕ) → filter_map (λ o. orig_row (v_score log moment (v_life me log moment o)) moment o (v_life me log moment o)) ks
      ≡ filter_map (λ o. orig_row (v_score log moment (v_life me log moment o)) moment o (v_life me log moment o)) (heard_originators (heard_v me log))
  orig_rows moment =
      let row = λ (o : Mac). orig_row (v_score log moment (v_life me log moment o)) moment o (v_life me log moment o) in
      kept_map live row ks (λ k none. ap (λ l. orig_row (v_score log moment (life moment l)) moment k (life moment l)) (none_live (of k (heard_v me log)) none))
      ∙ ap (λ l. filter_map row l) live_keys

  -- the rows of neighbours are those of the senders of ELPs
  pub link_rows : (moment : ℕ) → filter_map (λ k. row_by_elp moment k (last_elp k log)) ks ≡ filter_map (λ k. row_by_elp moment k (last_elp k log)) (elp_senders log)
  link_rows moment =
      let row = λ (k : Mac). row_by_elp moment k (last_elp k log) in
      kept_map sent row ks (λ k none. ap (λ e. row_by_elp moment k e) (none_came (last_elp k log) none))
      ∙ ap (λ l. filter_map row l) sender_keys
