-- What was read where a line gives a command: the fields of its form, each by the word that it is.
use Rattle.std.proofs.Common.{◌≡◌, ℕ, ◌<◌, Bool, true, false, List, [], ◌∷◌, ◌++◌, length, Option, Some, None, Result, Ok, Err, refl, subst, arith}
use Rattle.std.specs.Prelude.{⊤, bytes_eq, codes, unwrap_or, if◌then◌else◌}
use Rattle.std.specs.Option.{option_map_or}
use Rattle.std.specs.Map.{lookup}
use Rattle.mesh_base.specs.declared.address.Mac.{Mac}
use Rattle.mesh_base.specs.declared.client.Key.{Key}
use Rattle.mesh_model.specs.declared.ending.LimitName.TheVariants.{Line}
use Rattle.mesh_model.specs.declared.ending.Refusal.{Refusal}
use Rattle.mesh_model.specs.declared.ending.Refusal.TheVariants.{BadName, BadUtf8, ExtraWord, OutOfRange, UnknownCommand}
use Rattle.mesh_model.specs.declared.ending.Stop.TheVariants.{Refused, Limit}
use Rattle.mesh_model.specs.declared.line_form.Policy.TheVariants.{Best, Stable}
use Rattle.mesh_model.specs.declared.line_form.Command.{Command}
use Rattle.mesh_model.specs.declared.line_form.Command.TheVariants.{Nothing, Algo, Node, Link, Lan, Frame, Gone, Join, Leave, Arp, Dhcp, Wifi, GwOff, GwServer, GwClient, Mcast, Dat, Frag, Vis, Alfred, Put, Get, Ping, Trace, Reboot, Run, Deliver, Show, Decode}
use Rattle.mesh_model.specs.Scenario.AlfredForms.{fact_limit, fact_type_field, read_alfred, read_alfred_form, read_get, read_mode, read_put}
use Rattle.mesh_model.specs.Scenario.Commands.{command_of_line, command_of_words, is_comment, node_forms, read_form}
use Rattle.mesh_model.specs.Scenario.Fields.{group_field, name_field, target_field, unicast_field, vid_field, word_field}
use Rattle.mesh_model.specs.Scenario.LinkOptions.{LinkOptions, after_options, default_delay, default_pattern, default_throughput, link_with, options_of, the_options}
use Rattle.mesh_model.specs.Scenario.NetForms.{net_forms, the_gateways}
use Rattle.mesh_model.specs.Scenario.Readings.{Reading, a_field, a_key, a_text, a_text_up_to, after_field, listed_form, the_end}
use Rattle.mesh_model.specs.Scenario.SettingForms.{read_dat, read_frag, read_gateway, read_late, read_mcast, read_policy, read_server, read_set, read_setting, read_vis, read_wifi}
use Rattle.mesh_model.specs.Scenario.Words.{Word, line_words}

-- ---- what was read

-- a value is what a field reads of some word
pub record WasRead {A : Type 0} (read : List ℕ → Result A Refusal) (value : A) : Type 0 where
  pub word : List ℕ
  pub is : read word ≡ Ok value

-- a key is what an address and a VLAN were read as
abbrev pub KeyWasRead : (List ℕ → Result Mac Refusal) → Key → Type 0
KeyWasRead read key = WasRead read key.mac × WasRead vid_field key.vid

-- a link is what some words were read as
pub record LinkWasRead (delay : ℕ) (pattern : List ℕ) (throughput : ℕ) : Type 0 where
  pub options : LinkOptions
  pub words : List Word
  pub are : options_of words ≡ Ok options
  pub delay_is : unwrap_or options.delay default_delay ≡ delay
  pub pattern_is : unwrap_or options.pattern default_pattern ≡ pattern
  pub throughput_is : unwrap_or options.throughput default_throughput ≡ throughput

module _ (IsText : List ℕ → Type 0) where
  -- the rest of the line from each word on is a text
  abbrev pub AreTexts : List Word → Type 0
  AreTexts [] = ⊤
  AreTexts (word ∷ rest) = IsText word.text × AreTexts rest

  -- a command is what the fields of its form were read as
  abbrev pub FieldsWereRead : Command → Type 0
  FieldsWereRead Nothing = ⊤
  FieldsWereRead (Algo algorithm) = ⊤
  FieldsWereRead (Node name mac) = WasRead name_field name × WasRead unicast_field mac
  FieldsWereRead (Link from to delay pattern throughput) = LinkWasRead delay pattern throughput
  FieldsWereRead (Lan name gateways) = WasRead name_field name × (0 < length gateways)
  FieldsWereRead (Frame place src dst vid text) = KeyWasRead unicast_field (record { mac = src; vid = vid }) × WasRead target_field dst × IsText text
  FieldsWereRead (Gone place key) = KeyWasRead unicast_field key
  FieldsWereRead (Join node key) = KeyWasRead group_field key
  FieldsWereRead (Leave node key) = KeyWasRead group_field key
  FieldsWereRead (Arp node mac own asked vid) = KeyWasRead unicast_field (record { mac = mac; vid = vid })
  FieldsWereRead (Dhcp node key text) = KeyWasRead unicast_field key × IsText text
  FieldsWereRead (Wifi node on) = ⊤
  FieldsWereRead (GwOff node) = ⊤
  FieldsWereRead (GwServer node down up) = ⊤
  FieldsWereRead (GwClient node policy) = ⊤
  FieldsWereRead (Mcast node flags) = ⊤
  FieldsWereRead (Dat node on) = ⊤
  FieldsWereRead (Frag node longest) = ⊤
  FieldsWereRead (Vis node on) = ⊤
  FieldsWereRead (Alfred node mode) = ⊤
  FieldsWereRead (Put node type_no version text) = WasRead fact_type_field type_no × IsText text
  FieldsWereRead (Get node type_no) = WasRead fact_type_field type_no
  FieldsWereRead (Ping node target) = ⊤
  FieldsWereRead (Trace node target) = ⊤
  FieldsWereRead (Reboot node) = ⊤
  FieldsWereRead (Run time) = ⊤
  FieldsWereRead (Deliver number) = ⊤
  FieldsWereRead (Show node table) = ⊤
  FieldsWereRead (Decode bytes) = ⊤

  -- so it is of a reading, where it is a command
  abbrev ReadingIs : Reading → Type 0
  ReadingIs (Ok command) = FieldsWereRead command
  ReadingIs (Err stop) = ⊤

  -- and so whatever words are read by a form
  abbrev FormReads : (List Word → Reading) → Type 0
  FormReads form = (words : List Word) → AreTexts words → ReadingIs (form words)

  -- ---- the parts of forms
  after : {A : Type 0} (read : List ℕ → Result A Refusal) (next : A → List Word → Reading) (word : List ℕ) (words : List Word) → AreTexts words → (value : Result A Refusal) → read word ≡ value
      → ((value : A) → WasRead read value → FormReads (next value)) → ReadingIs (after_field next words value)
  after read next word words texts (Ok value) is h = h value (record { word = word; is = is }) words texts
  after read next word words texts (Err refusal) is h = tt

  field_was : {A : Type 0} (read : List ℕ → Result A Refusal) (next : A → List Word → Reading) → ((value : A) → WasRead read value → FormReads (next value)) → FormReads (a_field read next)
  field_was read next h [] texts = tt
  field_was read next h (first ∷ rest) texts = after read next first.word rest texts.1 (read first.word) refl h

  field : {A : Type 0} (read : List ℕ → Result A Refusal) (next : A → List Word → Reading) → ((value : A) → FormReads (next value)) → FormReads (a_field read next)
  field read next h = field_was read next (λ value was. h value)

  end : (command : Command) → FieldsWereRead command → FormReads (the_end command)
  end command h [] texts = h
  end command h (extra ∷ rest) texts = tt

  text : (command : List ℕ → Command) → ((t : List ℕ) → IsText t → FieldsWereRead (command t)) → FormReads (a_text command)
  text command h [] texts = tt
  text command h (first ∷ rest) texts = h first.text texts.0

  if_short : (short : Bool) (command : Command) → FieldsWereRead command → ReadingIs (if short then Ok command else Err (Refused OutOfRange))
  if_short true command h = h
  if_short false command h = tt

  text_up_to : (most : ℕ) (command : List ℕ → Command) → ((t : List ℕ) → IsText t → FieldsWereRead (command t)) → FormReads (a_text_up_to most command)
  text_up_to most command h [] texts = tt
  text_up_to most command h (first ∷ rest) texts = if_short _ _ (h first.text texts.0)

  key : (read : List ℕ → Result Mac Refusal) (next : Key → List Word → Reading) → ((k : Key) → KeyWasRead read k → FormReads (next k)) → FormReads (a_key read next)
  key read next h = field_was read (λ mac. a_field vid_field (λ vid. next (record { mac = mac; vid = vid }))) (λ mac mac_was.
      field_was vid_field (λ vid. next (record { mac = mac; vid = vid })) (λ vid vid_was. h (record { mac = mac; vid = vid }) (mac_was, vid_was)))

  -- ---- one of several forms
  abbrev FormsRead : List (List ℕ × (List Word → Reading)) → Type 0
  FormsRead [] = ⊤
  FormsRead (form ∷ rest) = FormReads form.1 × FormsRead rest

  -- one of them, or a refusal
  abbrev ChosenReads : Option (List Word → Reading) → Type 0
  ChosenReads None = ⊤
  ChosenReads (Some form) = FormReads form

  if_chosen : (is : Bool) (form : List Word → Reading) (other : Option (List Word → Reading)) → FormReads form → ChosenReads other → ChosenReads (if is then Some form else other)
  if_chosen true form other h rest = h
  if_chosen false form other h rest = rest

  chosen : (word : List ℕ) (forms : List (List ℕ × (List Word → Reading))) → FormsRead forms → ChosenReads (lookup (bytes_eq word) forms)
  chosen word [] h = tt
  chosen word (form ∷ rest) h = if_chosen (bytes_eq word form.0) form.1 (lookup (bytes_eq word) rest) h.0 (chosen word rest h.1)

  by_choice : (refusal : Refusal) (words : List Word) → AreTexts words → (form : Option (List Word → Reading)) → ChosenReads form → ReadingIs (option_map_or (λ read. read words) form (Err (Refused refusal)))
  by_choice refusal words texts None h = tt
  by_choice refusal words texts (Some form) h = h words texts

  listed : (forms : List (List ℕ × (List Word → Reading))) (refusal : Refusal) (word : List ℕ) → FormsRead forms → FormReads (listed_form forms refusal word)
  listed forms refusal word h words texts = by_choice refusal words texts (lookup (bytes_eq word) forms) (chosen word forms h)

  -- ---- all forms
  with_options : (from to : List ℕ) (words : List Word) (read : Result LinkOptions Refusal) → options_of words ≡ read → ReadingIs (after_options (link_with from to) read)
  with_options from to words (Ok options) are = record { options = options; words = words; are = are; delay_is = refl; pattern_is = refl; throughput_is = refl }
  with_options from to words (Err refusal) are = tt

  link : (from to : List ℕ) → FormReads (the_options (link_with from to))
  link from to words texts = with_options from to words (options_of words) refl

  some_gateways : (bad many : Bool) (command : Command) → FieldsWereRead command → ReadingIs (if bad then Err (Refused BadName) else if many then Err (Refused ExtraWord) else Ok command)
  some_gateways true many command h = tt
  some_gateways false true command h = tt
  some_gateways false false command h = h

  gateways : (name : List ℕ) → WasRead name_field name → FormReads (the_gateways (Lan name))
  gateways name named [] texts = tt
  gateways name named (first ∷ rest) texts = some_gateways _ _ _ (named, omega arith)

  policies : (node word : List ℕ) → FormReads (read_policy node word)
  policies node word = listed ((codes "best", the_end (GwClient node Best)) ∷ (codes "stable", the_end (GwClient node Stable)) ∷ (codes "late", read_late node) ∷ []) OutOfRange word
      (end _ tt, (end _ tt, (field _ _ (λ k. end _ tt), tt)))

  gateway_modes : (node word : List ℕ) → FormReads (read_gateway node word)
  gateway_modes node word = listed ((codes "off", the_end (GwOff node)) ∷ (codes "server", read_server node) ∷ (codes "client", a_field word_field (read_policy node)) ∷ []) OutOfRange word
      (end _ tt, (field _ _ (λ d. field _ _ (λ u. end _ tt)), (field word_field (read_policy node) (λ w. policies node w), tt)))

  setting : (node word : List ℕ) → FormReads (read_setting node word)
  setting node word = listed ((codes "wifi", read_wifi node) ∷ (codes "gw", a_field word_field (read_gateway node)) ∷ (codes "mcast", read_mcast node) ∷ (codes "dat", read_dat node)
      ∷ (codes "frag", read_frag node) ∷ (codes "vis", read_vis node) ∷ []) OutOfRange word
      (field _ _ (λ on. end _ tt), (field word_field (read_gateway node) (λ w. gateway_modes node w), (field _ _ (λ n. end _ tt), (field _ _ (λ on. end _ tt), (field _ _ (λ size. end _ tt), (field _ _ (λ on. end _ tt), tt))))))

  settings : FormReads read_set
  settings = field _ _ (λ node. field word_field (read_setting node) (λ word. setting node word))

  alfred_form : (node word : List ℕ) → FormReads (read_alfred_form node word)
  alfred_form node word = listed ((codes "mode", read_mode node) ∷ (codes "put", read_put node) ∷ (codes "get", read_get node) ∷ []) OutOfRange word
      (field _ _ (λ mode. end _ tt), (field_was fact_type_field _ (λ t was. field _ _ (λ v. text_up_to fact_limit (λ x. Put node t v x) (λ x tail. (was, tail)))), (field_was fact_type_field _ (λ t was. end _ was), tt)))

  alfred_forms : FormReads read_alfred
  alfred_forms = field _ _ (λ node. field word_field (read_alfred_form node) (λ word. alfred_form node word))

  at_nodes : FormsRead node_forms
  at_nodes = (
    field _ _ (λ a. field_was unicast_field _ (λ src src_was. field_was target_field _ (λ dst dst_was. field_was vid_field _ (λ vid vid_was. text (λ t. Frame a src dst vid t) (λ t tail. ((src_was, vid_was), dst_was, tail)))))),
    (
      field _ _ (λ a. key unicast_field (λ k. the_end (Gone a k)) (λ k was. end (Gone a k) was)),
      (
        field _ _ (λ a. key group_field (λ k. the_end (Join a k)) (λ k was. end (Join a k) was)),
        (
          field _ _ (λ a. key group_field (λ k. the_end (Leave a k)) (λ k was. end (Leave a k) was)),
          (
            field _ _ (λ a. field_was unicast_field _ (λ mac mac_was. field _ _ (λ own. field _ _ (λ asked. field_was vid_field _ (λ vid vid_was. end (Arp a mac own asked vid) (mac_was, vid_was)))))),
            (
              field _ _ (λ a. key unicast_field (λ k. a_text (λ t. Dhcp a k t)) (λ k was. text (λ t. Dhcp a k t) (λ t tail. (was, tail)))),
              (settings, (alfred_forms, tt)),
            ),
          ),
        ),
      ),
    ),
  )

  all_forms : FormsRead (net_forms ++ node_forms)
  all_forms = (
    field _ _ (λ a. end _ tt),
    (
      field_was name_field _ (λ name named. field_was unicast_field _ (λ mac was. end (Node name mac) (named, was))),
      (
        field _ _ (λ a. field _ _ (λ b. link a b)),
        (
          field_was name_field _ (λ name named. gateways name named),
          (
            field _ _ (λ a. field _ _ (λ b. end _ tt)),
            (
              field _ _ (λ a. field _ _ (λ b. end _ tt)),
              (
                field _ _ (λ a. end _ tt),
                (
                  field _ _ (λ a. end _ tt),
                  (
                    field _ _ (λ a. end _ tt),
                    (
                      field _ _ (λ a. field _ _ (λ b. end _ tt)),
                      (
                        field _ _ (λ a. end _ tt),
                        at_nodes,
                      ),
                    ),
                  ),
                ),
              ),
            ),
          ),
        ),
      ),
    ),
  )

  -- ---- lines
  if_comment : (comment : Bool) (reading : Reading) → ReadingIs reading → ReadingIs (if comment then Ok Nothing else reading)
  if_comment true reading h = tt
  if_comment false reading h = h

  words_read : (words : List Word) → AreTexts words → ReadingIs (command_of_words words)
  words_read [] texts = tt
  words_read (first ∷ rest) texts = if_comment (is_comment first.word) (read_form first.word rest) (listed (net_forms ++ node_forms) UnknownCommand first.word all_forms rest texts.1)

  if_read : (long utf8 : Bool) (reading : Reading) → ReadingIs reading → ReadingIs (if long then Err (Limit Line) else if utf8 then reading else Err (Refused BadUtf8))
  if_read true utf8 reading h = tt
  if_read false true reading h = h
  if_read false false reading h = tt

  line_read : (line : List ℕ) → AreTexts (line_words line) → ReadingIs (command_of_line line)
  unfolding command_of_line
  line_read line texts = if_read _ _ (command_of_words (line_words line)) (words_read (line_words line) texts)

  -- a command that is read is what the fields of its form were read as
  pub fields_read : (line : List ℕ) (command : Command) → AreTexts (line_words line) → command_of_line line ≡ Ok command → FieldsWereRead command
  fields_read line command texts h = subst ReadingIs h (line_read line texts)

-- any text will do
abbrev pub AnyText : List ℕ → Type 0
AnyText text = ⊤

any_texts : (words : List Word) → AreTexts AnyText words
any_texts [] = tt
any_texts (word ∷ rest) = (tt, any_texts rest)

-- so it is of the fields of every line, whatever its texts are
pub all_fields_read : (line : List ℕ) (command : Command) → command_of_line line ≡ Ok command → FieldsWereRead AnyText command
all_fields_read line command h = fields_read AnyText line command (any_texts (line_words line)) h
