use Rattle.std.proofs.Common.{arith, ◌∙◌, sym, ap}
use Rattle.std.specs.Option.{option_map}
use Rattle.std.specs.Result.{result_ok}
use Rattle.mesh_base.proofs.MacText.{mac_of_text-not_spaced, mac_of_text-spaced, mac_from, HasColons}
use Rattle.mesh_base.proofs.address.Mac.read.Goals as goal

pub returns-in_default : goal.returns-in_default
returns-in_default c = mac_of_text-not_spaced _ (λ (spaced : HasColons c.args.text.now). omega arith)

pub returns-in_default-2 : goal.returns-in_default-2
returns-in_default-2 c = mac_of_text-not_spaced _ (λ (spaced : HasColons c.args.text.now). omega arith)

pub returns-in_default-3 : goal.returns-in_default-3
returns-in_default-3 c = mac_of_text-not_spaced _ (λ (spaced : HasColons c.args.text.now). omega arith)

pub returns-in_default-4 : goal.returns-in_default-4
returns-in_default-4 c = mac_of_text-not_spaced _ (λ (spaced : HasColons c.args.text.now). omega arith)

pub returns-in_default-5 : goal.returns-in_default-5
returns-in_default-5 c = mac_of_text-not_spaced _ (λ (spaced : HasColons c.args.text.now). omega arith)

pub returns-in_default-7 : goal.returns-in_default-7
returns-in_default-7 c = mac_of_text-not_spaced _ (λ (spaced : HasColons c.args.text.now). omega arith)

pub returns-in_err-bytes : goal.returns-in_err-bytes
returns-in_err-bytes c =
    let spaced : HasColons c.args.text.now = record {
      long = omega arith;
      colon_2 = omega arith;
      colon_5 = omega arith;
      colon_8 = omega arith;
      colon_11 = omega arith;
      colon_14 = omega arith;
    } in
    c.from_residual.ensures
    ∙ ap (option_map mac_from) (sym c.in_err-bytes.was ∙ c.ok.ensures.value ∙ ap result_ok c.from_hex.ensures)
    ∙ mac_of_text-spaced c.args.text.now spaced

pub returns : goal.returns
returns c =
    let spaced : HasColons c.args.text.now = record {
      long = omega arith;
      colon_2 = omega arith;
      colon_5 = omega arith;
      colon_8 = omega arith;
      colon_11 = omega arith;
      colon_14 = omega arith;
    } in
    ap (option_map mac_from) (sym c.in_ok-bytes.was ∙ c.ok.ensures.value ∙ ap result_ok c.from_hex.ensures)
    ∙ mac_of_text-spaced c.args.text.now spaced
