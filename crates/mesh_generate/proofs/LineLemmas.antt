-- The lines of one place or second more, and parts that are appended one by one.
use Rattle.std.proofs.Common.{◌≡◌, ◌∙◌, ◌+◌, ◌%◌, ℕ, suc, List, [], ◌∷◌, ◌++◌, refl, sym, ap, append-nil, append_assoc, arith}
use Rattle.std.specs.List.{concat, fold}
use Rattle.mesh_model.specs.Scenario.Lines.{newline}
use Rattle.mesh_model.specs.Text.PacketLines.{line_of}
use Rattle.mesh_model.specs.Run.Generated.{drawn_after, link_line, next_drawn, node_line, node_lines, ring_lines, second_lines, traffic_lines}

one_more : (n : ℕ) → n + 1 ≡ suc n
one_more n = omega arith

-- no lines yet
pub no_nodes : (out : List ℕ) → out ≡ out ++ node_lines 0
unfolding node_lines
no_nodes out = sym (append-nil out)

pub no_links : (out : List ℕ) (nodes : ℕ) → out ≡ out ++ ring_lines nodes 0
unfolding ring_lines
no_links out nodes = sym (append-nil out)

pub no_seconds : (out : List ℕ) (nodes : ℕ) → out ≡ out ++ traffic_lines nodes 0
unfolding traffic_lines
no_seconds out nodes = sym (append-nil out)

pub nothing_drawn : (nodes : ℕ) → nodes ≡ drawn_after nodes 0
unfolding drawn_after
nothing_drawn nodes = refl

-- the lines of one more
pub node_more : (out before after : List ℕ) (place : ℕ) → before ≡ out ++ node_lines place → after ≡ before ++ node_line place → after ≡ out ++ node_lines (place + 1)
unfolding node_lines
node_more out before after place was is = rw (one_more place) (is ∙ ap (λ text. text ++ node_line place) was ∙ append_assoc out (node_lines place) (node_line place))

pub links_more : (out before mid after : List ℕ) (nodes place : ℕ) → before ≡ out ++ ring_lines nodes place → mid ≡ before ++ link_line place ((place + 1) % nodes)
    → after ≡ mid ++ link_line ((place + 1) % nodes) place → after ≡ out ++ ring_lines nodes (place + 1)
unfolding ring_lines
links_more out before mid after nodes place was on back =
    let next = (place + 1) % nodes in
    let lines : after ≡ out ++ ring_lines nodes (suc place) = back ∙ ap (λ text. text ++ link_line next place) (on ∙ ap (λ text. text ++ link_line place next) was)
    ∙ append_assoc (out ++ ring_lines nodes place) (link_line place next) (link_line next place)
    ∙ append_assoc out (ring_lines nodes place) (link_line place next ++ link_line next place) in
    rw (one_more place) lines

pub seconds_more : (out before after : List ℕ) (nodes seconds x : ℕ) → before ≡ out ++ traffic_lines nodes seconds → x ≡ drawn_after nodes seconds
    → after ≡ before ++ second_lines nodes (seconds + 1) x → after ≡ out ++ traffic_lines nodes (seconds + 1)
unfolding traffic_lines
seconds_more out before after nodes seconds x was stood is =
    let lines : after ≡ out ++ traffic_lines nodes (suc seconds) = is ∙ ap (λ text. text ++ second_lines nodes (seconds + 1) x) was ∙ append_assoc out (traffic_lines nodes seconds) (second_lines nodes (seconds + 1) x)
    ∙ ap (λ y. out ++ (traffic_lines nodes seconds ++ second_lines nodes (seconds + 1) y)) stood in
    rw (one_more seconds) lines

pub drawn_more : (nodes seconds x y : ℕ) → x ≡ drawn_after nodes seconds → y ≡ next_drawn (next_drawn x) → y ≡ drawn_after nodes (seconds + 1)
unfolding drawn_after
drawn_more nodes seconds x y stood is = rw (one_more seconds) (is ∙ ap (λ z. next_drawn (next_drawn z)) stood)

-- parts that are appended one by one
pub appended : (out : List ℕ) (parts : List (List ℕ)) → fold (λ text part. text ++ part) out parts ≡ out ++ concat parts
appended out [] = sym (append-nil out)
appended out (part ∷ parts) = appended (out ++ part) parts ∙ append_assoc out part (concat parts)

-- a line of five or six parts, and then its newline
pub line_of_5 : (o a b c d e z p q r s t : List ℕ) → a ≡ o ++ p → b ≡ a ++ q → c ≡ b ++ r → d ≡ c ++ s → e ≡ d ++ t → z ≡ e ++ newline ∷ []
    → z ≡ o ++ line_of (p ∷ q ∷ r ∷ s ∷ t ∷ [])
line_of_5 o a b c d e z p q r s t is1 is2 is3 is4 is5 is =
    let parts = p ∷ q ∷ r ∷ s ∷ t ∷ [] in
    let all : e ≡ o ++ concat parts = is5 ∙ ap (λ x. x ++ t) (is4 ∙ ap (λ x. x ++ s) (is3 ∙ ap (λ x. x ++ r) (is2 ∙ ap (λ x. x ++ q) is1))) ∙ appended o parts in
    is ∙ ap (λ x. x ++ newline ∷ []) all ∙ append_assoc o (concat parts) (newline ∷ [])

pub line_of_6 : (o a b c d e f z p q r s t u : List ℕ) → a ≡ o ++ p → b ≡ a ++ q → c ≡ b ++ r → d ≡ c ++ s → e ≡ d ++ t → f ≡ e ++ u → z ≡ f ++ newline ∷ []
    → z ≡ o ++ line_of (p ∷ q ∷ r ∷ s ∷ t ∷ u ∷ [])
line_of_6 o a b c d e f z p q r s t u is1 is2 is3 is4 is5 is6 is =
    let parts = p ∷ q ∷ r ∷ s ∷ t ∷ u ∷ [] in
    let all : f ≡ o ++ concat parts =
    is6 ∙ ap (λ x. x ++ u) (is5 ∙ ap (λ x. x ++ t) (is4 ∙ ap (λ x. x ++ s) (is3 ∙ ap (λ x. x ++ r) (is2 ∙ ap (λ x. x ++ q) is1)))) ∙ appended o parts in
    is ∙ ap (λ x. x ++ newline ∷ []) all ∙ append_assoc o (concat parts) (newline ∷ [])
