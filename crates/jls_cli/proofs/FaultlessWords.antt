-- clap's two definitions agree: a parse of words finds no fault if and only if each of its steps passes.
use Rattle.std.proofs.Common.{◌≡◌, ◌∙◌, ◌+◌, ◌&&◌, ◌||◌, ℕ, Bool, cond, true, false, not, zero, suc, refl, sym, ap, ap₂, arith, List, []}
use Rattle.std.proofs.Common.{◌∷◌, length, Option, Some, None, is_some, drop, min, true≢false}
use Rattle.std.specs.Prelude.{encode_utf8, find, nat_le, slice_get, codes}
use Rattle.std.specs.List.{list_all, list_any}
use Rattle.std.specs.Option.{option_map_or}
use Rattle.std.specs.Str.{bytes_eq, chars}
use Rattle.std.proofs.lemmas.Bool.Decides.{nat_tests}
use Rattle.std.proofs.lemmas.Bool.{and_parts}
use Rattle.clap.specs.Lexer.{long_of, short_of}
use Rattle.clap.specs.Values.{is_request, refused_kind}
use Rattle.clap.specs.ValueTests.{accepts}
use Rattle.clap.specs.Matches.{count_text}
use Rattle.clap.specs.Facts.{explicit_source, parser_of_value, unwrap_or_range}
use Rattle.clap.specs.Walk.{Held, Names, Row, Rule, Step, Text, Walk, action_of, answers_to, arg_by_id, arg_by_index, arg_by_long}
use Rattle.clap.specs.Walk.{arg_by_short, attached_value, count_of, finished, has_row, is_empty, is_pending, most_values, nothing_held}
use Rattle.clap.specs.Walk.{reacted, settled, subcommand_met, takes_several, takes_values, value, next, trailing, subcommand}
use Rattle.clap.specs.Walk.{values_or_missing, walk, walk_from, walked, with_default, word_met}
use Rattle.clap.specs.Simple.{App, Shape, argument_words, built, entered, is_simple, label_of, names_of}
use Rattle.clap.specs.Kinds.{Kinds, check_kinds, or_else, range_kinds, request_kinds, value_kinds}
use Rattle.clap.specs.Takes.{action_passes, built_takes, bundle_step_passes, count_passes, default_passes, entered_passes}
use Rattle.clap.specs.Takes.{flag_word_passes, flags_pass, is_given, is_valid, level_passes, long_passes, option_passes, other_passes}
use Rattle.clap.specs.Takes.{positional_passes, react_passes, set_passes, settle_passes, short_passes, step_passes, takes, turn_passes}
use Rattle.clap.specs.Takes.{use_passes, values_pass, walk_passes}
use Rattle.clap.specs.Faults.{action_fault, built_fault, bundle_step_fault, check_fault, count_fault, default_fault, defaults_fault}
use Rattle.clap.specs.Faults.{entered_fault, fault_of, flag_word_fault, flags_fault, has_free_rules, is_free_app, is_simple_and_free}
use Rattle.clap.specs.Faults.{level_fault, long_fault, option_fault, other_fault, positional_fault, react_fault, repeat_fault, set_fault}
use Rattle.clap.specs.Faults.{settle_fault, short_fault, step_fault, stray_fault, turn_fault, use_fault, values_fault, walk_fault}
use Rattle.clap.specs.Faults.{word_fault}
use Rattle.clap.specs.declared.builder.action.ArgAction.{ArgAction}
use Rattle.clap.specs.declared.builder.action.ArgAction.TheVariants as action
use Rattle.clap.specs.declared.builder.value_parser.ValueParser.{ValueParser}
use Rattle.clap.specs.declared.error.kind.ErrorKind.{ErrorKind}
use Rattle.jls_cli.specs.Words.{TakesFaultless}

-- whether there is no kind of fault
abbrev no_kind : Kinds → Bool
no_kind [] = true
no_kind (k ∷ ks) = false

of_no_kind : (kinds : Kinds) → no_kind kinds ≡ true → kinds ≡ []
of_no_kind [] e = refl
of_no_kind (k ∷ ks) e = absurd (true≢false (sym e))

-- ---- a step that passes has no kind of fault

or_none : (a b : Kinds) → no_kind (or_else a b) ≡ (no_kind a && no_kind b)
or_none [] b = refl
or_none (k ∷ ks) b = refl

-- two steps, one after the other
both_none : (a b : Kinds) (x y : Bool) → no_kind a ≡ x → no_kind b ≡ y → no_kind (or_else a b) ≡ (x && y)
both_none a b x y e f = or_none a b ∙ ap₂ (λ u v. u && v) e f

-- one of two steps
one_none : (b : Bool) (x y : Kinds) (u v : Bool) → no_kind x ≡ u → no_kind y ≡ v → no_kind (cond b x y) ≡ cond b u v
one_none true x y u v e f = e
one_none false x y u v e f = f

-- a step that may not be
maybe_none : {X : Type 0} (f : X → Kinds) (g : X → Bool) (d : Kinds) (e : Bool) (o : Option X)
    → ((x : X) → no_kind (f x) ≡ g x) → no_kind d ≡ e → no_kind (option_map_or f o d) ≡ option_map_or g o e
maybe_none f g d e None each other = other
maybe_none f g d e (Some x) each other = each x

-- a step that is passed over
unless_none : (b : Bool) (x : Kinds) (u : Bool) → no_kind x ≡ u → no_kind (cond b [] x) ≡ (b || u)
unless_none true x u e = refl
unless_none false x u e = e

test_none : (b : Bool) (k : ErrorKind) → no_kind (cond b [] (k ∷ [])) ≡ b
test_none true k = refl
test_none false k = refl

-- ---- one use of an argument

value_none : (i : Bool) (p : ValueParser) (t : Text) → no_kind (value_kinds i p t) ≡ accepts i p t
value_none i p t = test_none (accepts i p t) (refused_kind p)

values_none : (a : Rule) (values : List Text) → no_kind (values_fault a values) ≡ values_pass a values
values_none a [] = refl
values_none a (v ∷ vs) = both_none (value_kinds a.ignore_case (parser_of_value a.parser) v) (values_fault a vs) _ _
    (value_none a.ignore_case (parser_of_value a.parser) v) (values_none a vs)

range_none : (least most n : ℕ) → no_kind (range_kinds least most n) ≡ (nat_le least n && nat_le n most)
range_none least most n = grind (arith, nat_tests)

count_none : (a : Rule) (values : List Text) (rows : List Row) → no_kind (count_fault a values rows) ≡ count_passes a values rows
count_none a [] rows = value_none a.ignore_case (parser_of_value a.parser) (count_text (min (count_of a.id rows + 1) 255))
count_none a (v ∷ vs) rows = values_none a (v ∷ vs)

repeat_test : (has again : Bool) (k : ErrorKind) → no_kind (cond (has && not again) (k ∷ []) []) ≡ (not has || again)
repeat_test true true k = refl
repeat_test true false k = refl
repeat_test false true k = refl
repeat_test false false k = refl

set_none : (again : Bool) (a : Rule) (values : List Text) (rows : List Row)
    → no_kind (set_fault again a values rows) ≡ set_passes again a values rows
set_none again a values rows =
    both_none (repeat_fault again a.id rows) (values_fault a values) _ _ (repeat_test (has_row a.id rows) again _) (values_none a values)

action_none : (x : ArgAction) (again : Bool) (a : Rule) (values : List Text) (rows : List Row)
    → no_kind (action_fault x again a values rows) ≡ action_passes x again a values rows
action_none action.Set again a values rows = set_none again a values rows
action_none action.SetTrue again a values rows = set_none again a values rows
action_none action.SetFalse again a values rows = set_none again a values rows
action_none action.Append again a values rows = values_none a values
action_none action.Count again a values rows = count_none a values rows
action_none action.Help again a values rows = refl
action_none action.HelpShort again a values rows = refl
action_none action.HelpLong again a values rows = refl
action_none action.Version again a values rows = refl

and_and : (a b c : Bool) → ((a && b) && c) ≡ (a && (b && c))
and_and true b c = refl
and_and false b c = refl

use_none : (again : Bool) (a : Rule) (values : List Text) (rows : List Row)
    → no_kind (use_fault again a values rows) ≡ use_passes again a values rows
use_none again a values rows =
    let least = (unwrap_or_range a.range).start_inclusive in
    let action = action_passes (action_of a) again a (values_or_missing a values) rows in
    both_none (range_kinds least (most_values a) (length values)) (action_fault (action_of a) again a (values_or_missing a values) rows) _ _
    (range_none least (most_values a) (length values)) (action_none (action_of a) again a (values_or_missing a values) rows)
    ∙ and_and (nat_le least (length values)) (nat_le (length values) (most_values a)) action

-- ---- the walk

module _ (c : List Rule) (again : Bool) where
  settle_none : (h : Held) → no_kind (settle_fault c again h) ≡ settle_passes c again h
  settle_none h = maybe_none _ _ [] true h.pending
      (λ p. maybe_none _ _ [] true (arg_by_id c p.0) (λ a. use_none again a p.1 h.rows) refl) refl

  react_none : (a : Rule) (values : List Text) (h : Held) → no_kind (react_fault c again a values h) ≡ react_passes c again a values h
  react_none a values h = both_none (settle_fault c again h) (use_fault again a values (settled c h).rows) _ _
      (settle_none h) (use_none again a values (settled c h).rows)

  option_none : (a : Rule) (v : Option Text) (h : Held) → no_kind (option_fault c again a v h) ≡ option_passes c again a v h
  option_none a (Some v) h = react_none a (v ∷ []) h
  option_none a None h = settle_none h

  flag_none : (a : Rule) (v : Option Text) (h : Held) (k : ErrorKind)
      → no_kind (cond (is_some v) (k ∷ []) (react_fault c again a [] h)) ≡ (not (is_some v) && react_passes c again a [] h)
  flag_none a None h k = react_none a [] h
  flag_none a (Some v) h k = refl

  long_none : (found : Option Rule) (v : Option Text) (h : Held) → no_kind (long_fault c again found v h) ≡ long_passes c again found v h
  long_none None v h = refl
  long_none (Some a) v h = one_none (takes_values a) _ _ _ _ (option_none a v h) (flag_none a v h _)

  short_none : (found : Option Rule) (rest : Text) (h : Held) (f : Held → Kinds) (g : Held → Bool) → ((x : Held) → no_kind (f x) ≡ g x)
      → no_kind (short_fault c again found rest h f) ≡ short_passes c again found rest h g
  short_none None rest h f g same = refl
  short_none (Some a) rest h f g same = one_none (takes_values a) _ _ _ _ (option_none a (attached_value rest) h)
      (both_none (react_fault c again a [] h) (f (reacted c a [] h)) _ _ (react_none a [] h) (same (reacted c a [] h)))

  step_of_bundle : (x : Option ℕ) (flags : Text) (skip : ℕ) (h : Held) (f : Text → ℕ → Held → Kinds) (g : Text → ℕ → Held → Bool)
      → ((t : Text) (n : ℕ) (y : Held) → no_kind (f t n y) ≡ g t n y)
      → no_kind (bundle_step_fault c again x flags skip h f) ≡ bundle_step_passes c again x flags skip h g
  step_of_bundle None flags skip h f g same = refl
  step_of_bundle (Some x) flags zero h f g same =
      let rest = drop (length (encode_utf8 x)) flags in
      short_none (arg_by_short c x) rest h (f rest 0) (g rest 0) (λ y. same rest 0 y)
  step_of_bundle (Some x) flags (suc skip) h f g same = same (drop (length (encode_utf8 x)) flags) skip h

  flags_none : (k : ℕ) (flags : Text) (skip : ℕ) (h : Held)
      → no_kind (flags_fault c again k flags skip h) ≡ flags_pass c again k flags skip h
  unfolding flags_fault flags_pass
  flags_none zero flags skip h = refl
  flags_none (suc k) flags skip h =
      step_of_bundle (slice_get (chars flags) 0) flags skip h (flags_fault c again k) (flags_pass c again k) (λ t n y. flags_none k t n y)

  flag_word_none : (p : Option (Text × Option Text)) (word : Text) (h : Held)
      → no_kind (flag_word_fault c again p word h) ≡ flag_word_passes c again p word h
  flag_word_none (Some p) word h = long_none (arg_by_long c p.0) p.1 h
  flag_word_none None word h =
      maybe_none _ _ [] true (short_of word) (λ flags. flags_none (length flags) flags h.skip (record h { skip = 0 })) refl

  positional_none : (a : Rule) (h : Held) → no_kind (positional_fault c again a h) ≡ positional_passes c again a h
  positional_none a h = unless_none (is_pending a h.pending && takes_several a) _ _ (settle_none h)

module _ (s : Shape) where
  help_none : (is disabled : Bool) (kinds : Kinds) → no_kind kinds ≡ false
      → no_kind (cond (is && not disabled) kinds []) ≡ (not is || disabled)
  help_none true true kinds e = refl
  help_none true false kinds e = e
  help_none false disabled kinds e = refl

  other_none : (name : Option Text) (word : Text) (h : Held) → no_kind (other_fault s name word h) ≡ other_passes s name word h
  other_none (Some name) word h = help_none (bytes_eq name (codes "help")) s.disable_help_subcommand _ refl
  other_none None word h =
      unless_none (bytes_eq word (45 ∷ 45 ∷ [])) _ _ (flag_word_none s.rules s.args_override_self (long_of word) word h)

  stray_none : no_kind (stray_fault s) ≡ false
  stray_none = one_none s.is_leaf _ _ false false refl refl ∙ same s.is_leaf
    where
      same : (b : Bool) → cond b false false ≡ false
      same true = refl
      same false = refl

  step_none : (position : ℕ) (h : Held) (step : Step) → no_kind (step_fault s position h step) ≡ step_passes s position h step
  step_none position h value =
      maybe_none _ _ (stray_fault s) false (arg_by_index s.rules position) (λ a. positional_none s.rules s.args_override_self a h)
      stray_none
  step_none position h (next waiting) = refl
  step_none position h (trailing p) = refl
  step_none position h (subcommand name) = refl

  module _ (names : Names) where
    turn_none : (w : Walk) (word : Text) → no_kind (turn_fault s names w word) ≡ turn_passes s names w word
    turn_none w word =
        let met = word_met s.rules names w.is_trailing w.waiting w.position word w.held in
        unless_none (is_some w.stopped) _ _
        (both_none (word_fault s names w.is_trailing w.waiting word w.held) (step_fault s w.position met.0 met.1) _ _
        (unless_none w.is_trailing _ _ (other_none (subcommand_met names w.waiting word) word w.held)) (step_none w.position met.0 met.1))

    walk_none : (w : Walk) (words : List Text) → no_kind (walk_fault s names w words) ≡ walk_passes s names w words
    unfolding walk_fault walk_passes
    walk_none w [] = refl
    walk_none w (word ∷ rest) =
        let after = walked s.rules names w word in
        both_none (turn_fault s names w word) (walk_fault s names after rest) _ _ (turn_none w word) (walk_none after rest)

-- ---- after the walk

request_none : (x : ArgAction) → no_kind (request_kinds x) ≡ not (is_request x)
request_none action.Set = refl
request_none action.SetTrue = refl
request_none action.SetFalse = refl
request_none action.Append = refl
request_none action.Count = refl
request_none action.Help = refl
request_none action.HelpShort = refl
request_none action.HelpLong = refl
request_none action.Version = refl

or_past : (x y z : Bool) → (y || z) ≡ true → ((x || y) || z) ≡ true
or_past true y z e = refl
or_past false y z e = e

default_ok : (rows : List Row) (a : Rule) → default_passes a ≡ true → no_kind (default_fault rows a) ≡ true
default_ok rows a passes =
    unless_none (has_row a.id rows || is_empty a.defaults) _ _
    (both_none (request_kinds (action_of a)) (values_fault a a.defaults) _ _ (request_none (action_of a)) (values_none a a.defaults))
    ∙ or_past (has_row a.id rows) _ _ passes

defaults_ok : (rows : List Row) (rules : List Rule) → list_all default_passes rules ≡ true → no_kind (defaults_fault rows rules) ≡ true
unfolding defaults_fault
defaults_ok rows [] pass = refl
defaults_ok rows (a ∷ rest) pass =
    let parts = and_parts (default_passes a) (list_all default_passes rest) pass in
    both_none (default_fault rows a) (defaults_fault (with_default rows a) rest) true true (default_ok rows a parts.0)
    (defaults_ok (with_default rows a) rest parts.1)

checks_none : (a b c : Bool) → no_kind (check_kinds a b c) ≡ (not a && (not b && not c))
checks_none true b c = refl
checks_none false true c = refl
checks_none false false true = refl
checks_none false false false = refl

not_or : (x y : Bool) → not (x || y) ≡ (not x && not y)
not_or true y = refl
not_or false y = refl

not_lacking : (x y : Bool) → not (x && not y) ≡ (not x || y)
not_lacking true true = refl
not_lacking true false = refl
not_lacking false y = refl

lacks_none : (rows : List Row) (rules : List Rule)
    → not (list_any (λ a. a.required && not (is_given a.id rows)) rules) ≡ list_all (λ a. not a.required || is_given a.id rows) rules
lacks_none rows [] = refl
lacks_none rows (a ∷ rest) =
    not_or (a.required && not (is_given a.id rows)) _
    ∙ ap₂ (λ x y. x && y) (not_lacking a.required (is_given a.id rows)) (lacks_none rows rest)

not_wanting_help : (has need any : Bool) → not (not has && (need && not any)) ≡ (not need || (has || any))
not_wanting_help true true any = refl
not_wanting_help true false any = refl
not_wanting_help false true true = refl
not_wanting_help false true false = refl
not_wanting_help false false any = refl

not_wanting_command : (has need : Bool) → not (not has && need) ≡ (not need || has)
not_wanting_command true true = refl
not_wanting_command true false = refl
not_wanting_command false true = refl
not_wanting_command false false = refl

not_wanting_argument : (excused lacks : Bool) → not (not excused && lacks) ≡ (excused || not lacks)
not_wanting_argument true lacks = refl
not_wanting_argument false lacks = refl

check_none : (s : Shape) (rows : List Row) (has : Bool) → has_free_rules s ≡ true → no_kind (check_fault s rows has) ≡ is_valid s rows has
check_none s rows has free =
    let any = list_any (λ (r : Row). explicit_source r.source) rows in
    let lacks = list_any (λ (a : Rule). a.required && not (is_given a.id rows)) s.rules in
    let excused = s.subcommand_negates_reqs && has in
    let given = list_all (λ (a : Rule). not a.required || is_given a.id rows) s.rules in
    checks_none (not has && (s.arg_required_else_help && not any)) (not has && s.subcommand_required) (not excused && lacks)
    ∙ ap₂ (λ x y. x && y) (not_wanting_help has s.arg_required_else_help any)
    (ap₂ (λ x y. x && y) (not_wanting_command has s.subcommand_required)
    (not_wanting_argument excused lacks ∙ ap (λ x. excused || x) (lacks_none rows s.rules) ∙ ap (λ f. f && (excused || given)) (sym free)))

-- what stands for each argument of the command that is not given is one of its values
abbrev defaults_pass : Shape → Bool
defaults_pass s = list_all default_passes s.rules

-- the same, of a command and its subcommands
abbrev pub all_defaults_pass : App → Bool
all_defaults_pass a = defaults_pass a.top && list_all defaults_pass a.subs

and_swap : (x b y : Bool) → (x && (b && y)) ≡ (b && (x && y))
and_swap true true y = refl
and_swap true false y = refl
and_swap false true y = refl
and_swap false false y = refl

level_none : (s : Shape) (names : Names) (h : Held) (words : List Text) (has : Bool) (below : Kinds) (b : Bool)
    → defaults_pass s ≡ true → has_free_rules s ≡ true → no_kind below ≡ b
    → no_kind (level_fault s names h words has below) ≡ (b && level_passes s names h words has)
level_none s names h words has below b pass free is =
    let end = (walk s.rules names h words).held in
    let rows = (settled s.rules end).rows in
    both_none (walk_fault s names (walk_from h) words) _ _ _ (walk_none s names (walk_from h) words)
    (both_none below _ _ _ is
    (both_none (settle_fault s.rules s.args_override_self end) _ _ _ (settle_none s.rules s.args_override_self end)
    (both_none (defaults_fault rows s.rules) (check_fault s (finished s.rules end) has) _ _ (defaults_ok rows s.rules pass ∙ sym pass)
    (check_none s (finished s.rules end) has free))))
    ∙ and_swap (walk_passes s names (walk_from h) words) b _

found_ok : (p q : Shape → Bool) (xs : List Shape) → list_all q xs ≡ true → option_map_or q (find p xs) true ≡ true
found_ok p q [] e = refl
found_ok p q (x ∷ xs) e = either (p x) (found_ok p q xs (and_parts (q x) (list_all q xs) e).1)
  where
    either : (b : Bool) → option_map_or q (find p xs) true ≡ true → option_map_or q (cond b (Some x) (find p xs)) true ≡ true
    either true rest = (and_parts (q x) (list_all q xs) e).0
    either false rest = rest

leaf_none : (words : List Text) (found : Option Shape)
    → option_map_or defaults_pass found true ≡ true → option_map_or has_free_rules found true ≡ true
    → no_kind (option_map_or (λ s. level_fault s [] nothing_held words false []) found [])
    ≡ option_map_or (λ s. level_passes s [] nothing_held words false) found true
leaf_none words None pass free = refl
leaf_none words (Some s) pass free = level_none s [] nothing_held words false [] true pass free refl

entered_none : (a : App) → list_all defaults_pass a.subs ≡ true → list_all has_free_rules a.subs ≡ true → (stop : Option (Text × List Text))
    → no_kind (entered_fault a stop) ≡ entered_passes a stop
entered_none a pass free stop = maybe_none _ _ [] true stop
    (λ p. leaf_none p.1 (find (λ s. answers_to p.0 (label_of s)) a.subs) (found_ok _ defaults_pass a.subs pass)
    (found_ok _ has_free_rules a.subs free)) refl

built_none : (a : App) (h : Held) (words : List Text) → all_defaults_pass a ≡ true → is_free_app a ≡ true
    → no_kind (built_fault a h words) ≡ built_takes a h words
built_none a h words pass free =
    let stop = (walk a.top.rules (names_of a) h words).stopped in
    let passes = and_parts (defaults_pass a.top) (list_all defaults_pass a.subs) pass in
    let frees = and_parts (has_free_rules a.top) (list_all has_free_rules a.subs) free in
    level_none a.top (names_of a) h words (is_some (entered a stop)) (entered_fault a stop) (entered_passes a stop) passes.0 frees.0
    (entered_none a passes.1 frees.1 stop)

no_fault_is_taken : (app : App) (words : List Text) → is_simple_and_free app ≡ true → all_defaults_pass (built app) ≡ true
    → no_kind (fault_of app words) ≡ takes app words
no_fault_is_taken app words simple pass =
    let parts = and_parts (is_simple app) (is_free_app (built app)) simple in
    built_none (built app) nothing_held (argument_words app words) pass parts.1
    ∙ ap (λ b. b && built_takes (built app) nothing_held (argument_words app words)) (sym parts.0)

pub takes_faultless : (app : App) → is_simple_and_free app ≡ true → all_defaults_pass (built app) ≡ true → TakesFaultless app
takes_faultless app simple pass words =
    let same = no_fault_is_taken app words simple pass in
    (λ taken. of_no_kind (fault_of app words) (same ∙ taken), λ none. sym same ∙ ap no_kind none)
