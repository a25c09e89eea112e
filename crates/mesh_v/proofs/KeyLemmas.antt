-- Where hearings and ELPs come from: each is of an OGM or an ELP in the log.
use Rattle.std.proofs.Common.{◌≡◌, ◌⊎◌, inl, inr, ⊎_elim, ℕ, Bool, true, false, cond, ◌&&◌, ◌||◌, List, [], ◌∷◌, is_some, IsSome, Option, Some, None, refl, sym, ap, ◌∙◌}
use Rattle.std.proofs.lemmas.Bool.{cases_Bool, and_parts, or_cases, false≢true}
use Rattle.mesh_base.specs.declared.address.Mac.{Mac}
use Rattle.mesh_model.specs.Routes.Addresses.{same_mac}
use Rattle.mesh_model.specs.Routes.HearingsV.{heard_v, heard_with_v, hearing_v, passes_v}
use Rattle.mesh_model.specs.Routes.Life.{HeardOgm, of, is_live}
use Rattle.mesh_model.specs.Routes.Neighbours.{ElpHeard, is_own_elp, is_up, last_elp}
use Rattle.mesh_model.specs.Routes.Ogm2.{OgmV, elp_of_head, ogm2_of_head}
use Rattle.mesh_model.specs.Routes.RouteLog.{RouteLog, OwnTick, HeadCame}
use Rattle.mesh_laws.proofs.MacLemmas.{same_equiv, same_exact}
use Rattle.mesh_algo.specs.declared.life.Life.{Life}
use Rattle.mesh_algo.specs.declared.pair.Pair.{Pair}
use Rattle.mesh_algo.specs.LifeRows.{latest, life_row}
use Rattle.mesh_algo.proofs.CameFrom.{came_from, has_any, latest_any, numbers_any, of_any, or_left, or_right}
use Rattle.mesh_algo.proofs.LifeLemmas.{of_other}
use Rattle.mesh_algo.proofs.LifeRows.{some_row}
use Rattle.mesh_v.specs.KeyLaw.{is_elp_of, is_of, names_orig, names_pair, HasKeysOfHeads}
use Rattle.mesh_v.specs.Rows.{elp_row, orig_with, path_row, row_of}
use Rattle.mesh_v.specs.Tables.{StandsFor, Tables, orig_at}

-- ---- originators
heard_step : (me orig : Mac) (up : Mac → Bool) (moment : ℕ) (from : Mac) (tp : ℕ) (m : Option OgmV) (older : List HeardOgm) (names : Bool)
    → (is_live (of orig older) ≡ true → names ≡ true) → is_live (of orig (heard_with_v me up moment from tp m older)) ≡ true → (is_of orig m || names) ≡ true
heard_step me orig up moment from tp None older names h live = h live
heard_step me orig up moment from tp (Some m) older names h live =
    ⊎_elim (λ t. or_left (same_mac orig m.orig) names t)
    (λ f.
    let lived : is_live (of orig older) ≡ true = elim (passes_v me (up from) m) as (λ b. is_live (of orig (cond b (hearing_v up moment from tp m older ∷ older) older)) ≡ true → is_live (of orig older) ≡ true) [
      | true ↦ λ l. ap (λ x. is_live x) (sym (of_other orig (hearing_v up moment from tp m older) older (same_equiv.symm m.orig orig ∙ f))) ∙ l
      | false ↦ λ l. l
    ] live in
    or_right (same_mac orig m.orig) names (h lived))
    (cases_Bool (same_mac orig m.orig))

or_more : (a e names : Bool) → (a || names) ≡ true → (a || (e || names)) ≡ true
or_more true e names t = refl
or_more false true names t = refl
or_more false false names t = t

heard_named : (me orig : Mac) (log : RouteLog) → is_live (of orig (heard_v me log)) ≡ true → names_orig orig log ≡ true
heard_named me orig [] live = absurd (false≢true live)
heard_named me orig (OwnTick moment index ∷ older) live = heard_named me orig older live
heard_named me orig (HeadCame moment from throughput head ∷ older) live =
    or_more (is_of orig (ogm2_of_head head)) (is_elp_of orig (elp_of_head head)) (names_orig orig older)
    (heard_step me orig (λ k. is_up moment k older) moment from throughput (ogm2_of_head head) (heard_v me older) (names_orig orig older) (heard_named me orig older) live)

elp_step : (orig from : Mac) (e : Option Mac) (elp : ElpHeard) (rest : Option ElpHeard) (names : Bool) → (is_some rest ≡ true → names ≡ true)
    → is_some (cond (is_own_elp from e && same_mac from orig) (Some elp) rest) ≡ true → (is_elp_of orig e || names) ≡ true
elp_step orig from None elp rest names h some = h some
elp_step orig from (Some sender) elp rest names h some =
    elim (same_mac sender from && same_mac from orig) as (λ b. (same_mac sender from && same_mac from orig) ≡ b → is_some (cond b (Some elp) rest) ≡ true → (same_mac orig sender || names) ≡ true) [
      | true ↦ λ t x.
          let parts = and_parts (same_mac sender from) (same_mac from orig) t in
          or_left (same_mac orig sender) names (same_equiv.symm orig sender ∙ ap (λ k. same_mac k orig) (same_exact sender from parts.0) ∙ parts.1)
      | false ↦ λ t x. or_right (same_mac orig sender) names (h x)
    ] refl some

elp_named : (orig : Mac) (log : RouteLog) → is_some (last_elp orig log) ≡ true → names_orig orig log ≡ true
elp_named orig [] some = absurd (false≢true some)
elp_named orig (OwnTick moment index ∷ older) some = elp_named orig older some
elp_named orig (HeadCame moment from throughput head ∷ older) some =
    or_right (is_of orig (ogm2_of_head head)) (is_elp_of orig (elp_of_head head) || names_orig orig older)
    (elp_step orig from (elp_of_head head) (record { moment = moment; throughput = throughput }) (last_elp orig older) (names_orig orig older) (elp_named orig older) some)

either_row : (alive : Option Life) (elp : Option ElpHeard) → IsSome (orig_with alive (elp_row elp)) → (is_some alive ≡ true) ⊎ (is_some elp ≡ true)
either_row None None some = absurd (false≢true some)
either_row None (Some elp) some = inr refl
either_row (Some row) elp some = inl refl

orig_named : (me : Mac) (log : RouteLog) (orig : Mac) → IsSome (orig_at (heard_v me log) log orig) → names_orig orig log ≡ true
orig_named me log orig some =
    ⊎_elim (λ live. heard_named me orig log (sym (some_row (of orig (heard_v me log))) ∙ live)) (λ came. elp_named orig log came)
    (either_row (life_row (latest (of orig (heard_v me log)))) (last_elp orig log) some)

-- ---- neighbours
row_has : (numbers : List ℕ) (value : ℕ → ℕ) → IsSome (row_of numbers value) → has_any numbers ≡ true
row_has [] value some = absurd (false≢true some)
row_has (n ∷ numbers) value some = refl

came_step : (me : Mac) (pair : Pair) (up : Mac → Bool) (moment : ℕ) (from : Mac) (tp : ℕ) (m : Option OgmV) (older : List HeardOgm) (names : Bool)
    → (came_from pair.orig pair.from older ≡ true → names ≡ true) → came_from pair.orig pair.from (heard_with_v me up moment from tp m older) ≡ true
    → ((is_of pair.orig m && same_mac pair.from from) || names) ≡ true
came_step me pair up moment from tp None older names h came = h came
came_step me pair up moment from tp (Some m) older names h came =
    elim (passes_v me (up from) m) as (λ b. came_from pair.orig pair.from (cond b (hearing_v up moment from tp m older ∷ older) older) ≡ true → ((same_mac pair.orig m.orig && same_mac pair.from from) || names) ≡ true) [
      | true ↦ λ x. ⊎_elim (λ t. or_left (same_mac pair.orig m.orig && same_mac pair.from from) names t) (λ r. or_right (same_mac pair.orig m.orig && same_mac pair.from from) names (h r))
          (or_cases (same_mac pair.orig m.orig && same_mac pair.from from) (came_from pair.orig pair.from older) x)
      | false ↦ λ x. or_right (same_mac pair.orig m.orig && same_mac pair.from from) names (h x)
    ] came

came_named : (me : Mac) (pair : Pair) (log : RouteLog) → came_from pair.orig pair.from (heard_v me log) ≡ true → names_pair pair log ≡ true
came_named me pair [] came = absurd (false≢true came)
came_named me pair (OwnTick moment index ∷ older) came = came_named me pair older came
came_named me pair (HeadCame moment from throughput head ∷ older) came =
    came_step me pair (λ k. is_up moment k older) moment from throughput (ogm2_of_head head) (heard_v me older) (names_pair pair older) (came_named me pair older) came

path_named : (me : Mac) (log : RouteLog) (pair : Pair) → IsSome (path_row pair.from (latest (of pair.orig (heard_v me log)))) → names_pair pair log ≡ true
path_named me log pair some =
    came_named me pair log (of_any pair.orig pair.from (heard_v me log) (latest_any pair.from (of pair.orig (heard_v me log)) (numbers_any pair.from (latest (of pair.orig (heard_v me log))) (row_has _ _ some))))

-- each key is of an OGM or an ELP in the log
pub keys_named : (me : Mac) (tables : Tables) (log : RouteLog) → StandsFor me tables log → HasKeysOfHeads tables log
keys_named me tables log stands = record {
  origs = λ orig some. orig_named me log orig (ap (λ r. is_some r) (sym (stands.origs_stand.are orig)) ∙ some);
  paths = λ pair some. path_named me log pair (ap (λ r. is_some r) (sym (stands.paths_stand.are pair)) ∙ some);
}
