-- The tables after an ELP or an OGM: what each part has to have, and what only keeps a life up.
use Rattle.std.proofs.Common.{◌≡◌, ⊎_elim, ℕ, nat_lt, Bool, true, false, cond, not, ◌&&◌, List, [], ◌∷◌, is_some, unwrap_or, Option, Some, None, refl, sym, ap, ap₂, ◌∙◌, subst}
use Rattle.std.specs.List.Sorted.{IsStrictlySortedBy}
use Rattle.std.specs.Map.{keys_of, lookup}
use Rattle.std.proofs.lemmas.Bool.{cases_Bool, true≢false}
use Rattle.mesh_base.specs.declared.address.Mac.{Mac}
use Rattle.mesh_model.specs.declared.packet.Head.TheVariants.{Elp}
use Rattle.mesh_model.specs.declared.route.Meeting.{Meeting}
use Rattle.mesh_model.specs.Routes.Addresses.{mac_order, same_mac}
use Rattle.mesh_model.specs.Routes.AlgorithmV.{answer_to_v, forward_head_v}
use Rattle.mesh_model.specs.Routes.BestRoute.{best_route, is_over}
use Rattle.mesh_model.specs.Routes.Hearings.{before}
use Rattle.mesh_model.specs.Routes.HearingsV.{heard_v, passes_v, path_throughput, sends_on_v, valued_v}
use Rattle.mesh_model.specs.Routes.Life.{HeardOgm, of, since, life, meeting, is_live, is_first, forwarded}
use Rattle.mesh_model.specs.Routes.Neighbours.{ElpHeard, last_elp}
use Rattle.mesh_model.specs.Routes.Numbers.{has}
use Rattle.mesh_model.specs.Routes.Queries.{unheard}
use Rattle.mesh_model.specs.Routes.RouteLog.{RouteLog, HeadCame}
use Rattle.mesh_laws.proofs.MacLemmas.{same_exact}
use Rattle.mesh_algo.specs.declared.life.Life.{Life}
use Rattle.mesh_algo.specs.declared.pair.Pair.{Pair}
use Rattle.mesh_algo.specs.LifeRows.{latest, life_row, touched}
use Rattle.mesh_algo.specs.Pairs.{pair_order, same_pair}
use Rattle.mesh_algo.proofs.HearingLemmas.{IsMet, goes_on_with, lives_on, met, not_accepted, touched_life, touches_life}
use Rattle.mesh_algo.proofs.LifeRows.{before_is_latest, no_life, stays}
use Rattle.mesh_v.specs.declared.ogm.OgmCame.{OgmCame}
use Rattle.mesh_v.specs.declared.path.Path.{Path}
use Rattle.mesh_v.specs.declared.row.LastElp.{LastElp}
use Rattle.mesh_v.specs.declared.row.Orig.{Orig}
use Rattle.mesh_v.specs.Came.{ogm_in}
use Rattle.mesh_v.specs.Hears.{IsHeard, hearing_of, input_of, kept_row, life_before, up_then}
use Rattle.mesh_v.specs.Rows.{blank, elp_in, elp_row, life_in, orig_with, path_row, still_life}
use Rattle.mesh_v.specs.Tables.{OrigsStand, PathsStand, StandsFor, Tables, orig_at}
use Rattle.mesh_v.proofs.RowLemmas.{elp_kept, kept_by_row, life_of_row, touched_row}

-- ---- an ELP
with_elp : (alive : Option Life) (elp : LastElp) → Some (record { life = alive; elp = Some elp }) ≡ orig_with alive (Some elp)
with_elp None elp = refl
with_elp (Some row) elp = refl

module _ (me : Mac) (log : RouteLog) (moment : ℕ) (from : Mac) (tp : ℕ) (orig : Mac) (seq interval : ℕ) where
  -- the ELP that it is where its originator sent it
  abbrev came_elp : ElpHeard
  came_elp = record { moment = moment; throughput = tp }

  -- that of another counts for nothing
  pub passed_elp : (tables : Tables) → StandsFor me tables log → same_mac orig from ≡ false → StandsFor me tables (HeadCame moment from tp (Elp orig seq interval) ∷ log)
  passed_elp tables stands other = record {
    me_is = stands.me_is;
    ogms_are = stands.ogms_are;
    elps_are = stands.elps_are;
    origs_stand = record {
      are = λ q. stands.origs_stand.are q
          ∙ sym (ap (λ b. orig_with (life_row (latest (of q (heard_v me log)))) (elp_row (cond (b && same_mac from q) (Some came_elp) (last_elp q log)))) other);
      rise = stands.origs_stand.rise;
    };
    paths_stand = stands.paths_stand;
  }

  pub elp_stands : (old new : Tables) → StandsFor me old log → same_mac orig from ≡ true → new.me ≡ old.me → new.ogms ≡ old.ogms → new.elps ≡ old.elps → new.paths ≡ old.paths
      → ((q : Mac) → lookup (same_mac q) new.origs ≡ cond (same_mac from q) (Some (record { life = life_row (latest (of from (heard_v me log))); elp = Some (record { moment = moment; throughput = tp }) })) (lookup (same_mac q) old.origs))
      → IsStrictlySortedBy mac_order (keys_of new.origs) → StandsFor me new (HeadCame moment from tp (Elp orig seq interval) ∷ log)
  elp_stands old new stands own same_me same_ogms same_elps same_paths updated sorted = record {
    me_is = same_me ∙ stands.me_is;
    ogms_are = same_ogms ∙ stands.ogms_are;
    elps_are = same_elps ∙ stands.elps_are;
    origs_stand = record {
      are = λ q. updated q ∙ next q ∙ sym (ap (λ b. orig_with (life_row (latest (of q (heard_v me log)))) (elp_row (cond (b && same_mac from q) (Some came_elp) (last_elp q log)))) own);
      rise = sorted;
    };
    paths_stand = subst (λ rows. PathsStand (heard_v me log) rows) (sym same_paths) stands.paths_stand;
  }
    where
      row : LastElp
      row = record { moment = moment; throughput = tp }

      next : (q : Mac) → cond (same_mac from q) (Some (record { life = life_row (latest (of from (heard_v me log))); elp = Some row })) (lookup (same_mac q) old.origs)
          ≡ orig_with (life_row (latest (of q (heard_v me log)))) (elp_row (cond (true && same_mac from q) (Some came_elp) (last_elp q log)))
      next q =
          elim (same_mac from q) as (λ b. same_mac from q ≡ b → cond b (Some (record { life = life_row (latest (of from (heard_v me log))); elp = Some row })) (lookup (same_mac q) old.origs)
          ≡ orig_with (life_row (latest (of q (heard_v me log)))) (elp_row (cond (true && b) (Some came_elp) (last_elp q log)))) [
            | true ↦ λ t. with_elp (life_row (latest (of from (heard_v me log)))) row ∙ ap (λ o. orig_with (life_row (latest (of o (heard_v me log)))) (Some row)) (same_exact from q t)
            | false ↦ λ t. stands.origs_stand.are q
          ] refl

-- ---- an OGM
-- what isn't the first of its number isn't sent on
first_to_send : (up : Mac → Bool) (g : HeardOgm) (l : List HeardOgm) → is_first g l ≡ false → sends_on_v up g l ≡ false
first_to_send up g l e =
    ap (λ b. b && (nat_lt 1 g.ttl && (nat_lt 0 g.value && (is_over g.from (best_route (path_throughput up (g ∷ l)) (g ∷ l)) && not (has g.seq (forwarded l)))))) e

module _ (me : Mac) (log : RouteLog) (came : OgmCame) where
  abbrev pub hearings : List HeardOgm
  hearings = heard_v me log

  abbrev pub h : HeardOgm
  h = hearing_of me log came

  abbrev pub alive : List HeardOgm
  alive = life_before me log came

  -- the hearing before it is decided whether it is sent on
  abbrev pub v : HeardOgm
  v = valued_v came.moment came.from came.link (ogm_in came) hearings

  -- how its number meets the life at its moment
  pub is_met : IsMet h (of came.orig hearings)
  is_met = record { late = refl; restart = refl }

  -- what is known of one that is heard, by the rows that are read and computed
  pub is_heard : (tables : Tables) → StandsFor me tables log → passes_v me (up_then log came came.from) (ogm_in came) ≡ true → (orig : Option Orig) → orig ≡ orig_at hearings log came.orig
      → (lived gone_on : Option Life) (m : Meeting) (elp : Option LastElp) → lived ≡ still_life came.moment (life_in orig) → ((l : List HeardOgm) → lived ≡ life_row l → m ≡ meeting came.moment came.seq l)
      → gone_on ≡ cond m.restart None lived → elp ≡ elp_in orig → IsHeard me tables log came elp gone_on × (m ≡ met h (of came.orig hearings))
  is_heard tables stands p orig orig_is lived gone_on m elp lived_is m_is gone_is elp_is =
      let row : lived ≡ life_row (life came.moment (of came.orig hearings))
      = lived_is ∙ ap (λ o. still_life came.moment (life_in o)) orig_is ∙ life_of_row came.moment (of came.orig hearings) (elp_row (last_elp came.orig log)) in
      let meets : m ≡ met h (of came.orig hearings) = m_is (life came.moment (of came.orig hearings)) row in (
        record {
          stands = stands;
          passing = p;
          elp_is = elp_is ∙ ap (λ o. elp_in o) orig_is ∙ elp_kept (life_row (latest (of came.orig hearings))) (elp_row (last_elp came.orig log));
          row_is = goes_on_with h (of came.orig hearings) is_met lived gone_on m row meets gone_is;
        },
        meets,
      )

  -- ---- the row before it
  pub kept_none : (row : Option Life) → row ≡ life_row alive → row ≡ None → blank ≡ kept_row came.from alive
  kept_none row e none = kept_by_row came.from [] ∙ ap (λ l. kept_row came.from l) (sym (no_life alive (sym e ∙ none)))

  pub kept_some : (tables : Tables) (elp : Option LastElp) (row : Option Life) (r : Bool) → IsHeard me tables log came elp row → is_some row ≡ not r → r ≡ false
      → unwrap_or (path_row came.from (latest (of came.orig hearings))) blank ≡ kept_row came.from alive
  kept_some tables elp None r is e f = absurd (true≢false (sym (ap not f) ∙ sym e))
  kept_some tables elp (Some row) r is e f =
      ap (λ l. unwrap_or (path_row came.from l) blank) (sym (before_is_latest h (of came.orig hearings) row (sym is.row_is))) ∙ kept_by_row came.from alive

  heard_is : passes_v me (up_then log came came.from) (ogm_in came) ≡ true → heard_v me (input_of came ∷ log) ≡ h ∷ hearings
  heard_is p = ap (λ b. cond b (h ∷ hearings) hearings) p

  unheard_is : passes_v me (up_then log came came.from) (ogm_in came) ≡ false → heard_v me (input_of came ∷ log) ≡ hearings
  unheard_is p = ap (λ b. cond b (h ∷ hearings) hearings) p

  -- one that isn't heard changes nothing
  pub passed_stands : (tables : Tables) → StandsFor me tables log → passes_v me (up_then log came came.from) (ogm_in came) ≡ false → StandsFor me tables (input_of came ∷ log)
  passed_stands tables stands p = record {
    me_is = stands.me_is;
    ogms_are = stands.ogms_are;
    elps_are = stands.elps_are;
    origs_stand = subst (λ l. OrigsStand l (input_of came ∷ log) tables.origs) (sym (unheard_is p)) (record { are = stands.origs_stand.are; rise = stands.origs_stand.rise });
    paths_stand = subst (λ l. PathsStand l tables.paths) (sym (unheard_is p)) stands.paths_stand;
  }

  -- ---- the rows of originators
  pub origs_step : (old new : List (Mac × Orig)) (elp : Option LastElp) (row : Life) → OrigsStand hearings log old → elp ≡ elp_row (last_elp came.orig log) → Some row ≡ life_row (h ∷ alive)
      → ((q : Mac) → lookup (same_mac q) new ≡ cond (same_mac came.orig q) (Some (record { life = Some row; elp = elp })) (lookup (same_mac q) old))
      → IsStrictlySortedBy mac_order (keys_of new) → OrigsStand (h ∷ hearings) log new
  origs_step old new elp row stand elp_is row_is updated sorted = record {
    are = λ q. updated q
        ∙ elim (same_mac came.orig q) as (λ b. same_mac came.orig q ≡ b → cond b (Some (record { life = Some row; elp = elp })) (lookup (same_mac q) old)
        ≡ orig_with (life_row (latest (cond b (h ∷ of q hearings) (of q hearings)))) (elp_row (last_elp q log))) [
          | true ↦ λ t. ap₂ (λ l e. orig_with l e) row_is elp_is ∙ ap (λ o. orig_with (life_row (h ∷ since h (of o hearings))) (elp_row (last_elp o log))) (same_exact came.orig q t)
          | false ↦ λ t. stand.are q
        ] refl;
    rise = sorted;
  }

  -- ---- the rows of pairs
  own_row : (pair : Pair) → same_mac came.orig pair.orig ≡ true → path_row pair.from (h ∷ alive) ≡ path_row pair.from (latest (of pair.orig (h ∷ hearings)))
  own_row pair t =
      ap (λ o. path_row pair.from (h ∷ since h (of o hearings))) (same_exact came.orig pair.orig t)
      ∙ ap (λ b. path_row pair.from (latest (cond b (h ∷ of pair.orig hearings) (of pair.orig hearings)))) (sym t)

  other_row : (pair : Pair) → same_mac came.orig pair.orig ≡ false → path_row pair.from (latest (of pair.orig hearings)) ≡ path_row pair.from (latest (of pair.orig (h ∷ hearings)))
  other_row pair t = ap (λ b. path_row pair.from (latest (cond b (h ∷ of pair.orig hearings) (of pair.orig hearings)))) (sym t)

  pub paths_step : (old new : List (Pair × Path)) → PathsStand hearings old
      → ((pair : Pair) → same_mac came.orig pair.orig ≡ true → lookup (same_pair pair) new ≡ path_row pair.from (h ∷ alive))
      → ((pair : Pair) → same_mac came.orig pair.orig ≡ false → lookup (same_pair pair) new ≡ lookup (same_pair pair) old)
      → IsStrictlySortedBy pair_order (keys_of new) → PathsStand (h ∷ hearings) new
  paths_step old new stand own others sorted = record {
    are = λ pair. ⊎_elim (λ t. own pair t ∙ own_row pair t) (λ t. others pair t ∙ stand.are pair ∙ other_row pair t) (cases_Bool (same_mac came.orig pair.orig));
    rise = sorted;
  }

  -- ---- both
  pub step_stands : (old new : Tables) → StandsFor me old log → passes_v me (up_then log came came.from) (ogm_in came) ≡ true → new.me ≡ old.me → new.ogms ≡ old.ogms → new.elps ≡ old.elps
      → OrigsStand (h ∷ hearings) log new.origs → PathsStand (h ∷ hearings) new.paths → StandsFor me new (input_of came ∷ log)
  step_stands old new stands p same_me same_ogms same_elps origs paths = record {
    me_is = same_me ∙ stands.me_is;
    ogms_are = same_ogms ∙ stands.ogms_are;
    elps_are = same_elps ∙ stands.elps_are;
    origs_stand = subst (λ l. OrigsStand l (input_of came ∷ log) new.origs) (sym (heard_is p)) (record { are = origs.are; rise = origs.rise });
    paths_stand = subst (λ l. PathsStand l new.paths) (sym (heard_is p)) paths;
  }

  -- ---- an OGM that is late or repeated
  not_sent : is_first h alive ≡ false → h.sent_on ≡ false
  not_sent first = first_to_send (up_then log came) v (before v hearings) first

  pub touch_stands : (elp : Option LastElp) (row : Life) (old new : Tables) → IsHeard me old log came elp (Some row) → is_first h alive ≡ false → new.me ≡ old.me → new.ogms ≡ old.ogms → new.elps ≡ old.elps
      → ((q : Mac) → lookup (same_mac q) new.origs ≡ cond (same_mac came.orig q) (Some (record { life = Some (touched h.moment row); elp = elp })) (lookup (same_mac q) old.origs))
      → IsStrictlySortedBy mac_order (keys_of new.origs) → new.paths ≡ old.paths → StandsFor me new (input_of came ∷ log)
  touch_stands elp row old new is first same_me same_ogms same_elps updated sorted same_paths =
      let last = before_is_latest h (of came.orig hearings) row (sym is.row_is) in
      step_stands old new is.stands is.passing same_me same_ogms same_elps
      (origs_step old.origs new.origs elp (touched h.moment row) is.stands.origs_stand is.elp_is (touched_life h alive row (sym is.row_is) first (not_sent first) (stays h (of came.orig hearings) row (sym is.row_is))) updated sorted)
      (paths_step old.paths new.paths is.stands.paths_stand
      (λ pair t. ap (λ rows. lookup (same_pair pair) rows) same_paths ∙ is.stands.paths_stand.are pair
      ∙ ap (λ o. path_row pair.from (latest (of o hearings))) (sym (same_exact came.orig pair.orig t)) ∙ ap (λ l. path_row pair.from l) (sym last) ∙ sym (touched_row pair.from h alive first))
      (λ pair t. ap (λ rows. lookup (same_pair pair) rows) same_paths)
      (subst (λ rows. IsStrictlySortedBy pair_order (keys_of rows)) (sym same_paths) is.stands.paths_stand.rise))

  -- nothing is made of it
  pub touched_answer : (row : Option Life) → row ≡ life_row alive → is_first h alive ≡ false → answer_to_v came.flags h alive ≡ unheard
  touched_answer None e first = absurd (touches_life h (of came.orig hearings) is_met (sym e) first)
  touched_answer (Some row) e first =
      ap₂ (λ a b. record { accepted = a; began = not (is_live alive); forward = cond b (Some (forward_head_v came.flags h)) None })
      (not_accepted h alive row (sym e) first) (not_sent first)
      ∙ ap (λ b. record { accepted = false; began = not b; forward = None }) (lives_on h alive alive row (sym e))
