-- What an option's entry says, and that the program's command is one whose matches and faults are exact.
use Rattle.std.proofs.Common.{◌≡◌, ℕ, ap, get_or, arith, Global, String, List, map, string_bytes, true, Option, Some, None, Result, Ok, Err, refl, sym, subst, ◌∙◌, inl, inr}
use Rattle.std.specs.Prelude.{IsErr, IsErrAnd, Bool, [], drop, MatchOption, Box, codes, option_map}
use Rattle.std.specs.List.{drop-map}
use Rattle.std.proofs.Common.{◌-◌, length, take}
use Rattle.std.proofs.lemmas.List.{take_rest}
use Rattle.std.specs.Box.{box_value}
use Rattle.std.specs.Str.Parse.{ParsesUnsigned}
use Rattle.afdx_recordings.specs.declared.recordings.Recordings.{Recordings}
use Rattle.clap.specs.Words.{App, app_of, HasKind, IsAmong, Kinds, Row, Text, fault_of, is_simple, is_simple_and_free, kind_of, one_text, rows_of}
use Rattle.clap.specs.Words.{subcommand_name_of, subcommand_of, subcommand_rows, subcommand_rows_of, ReadsOne}
use Rattle.clap.specs.declared.builder.command.Command.{Command}
use Rattle.clap.specs.declared.error.Error.{Error}
use Rattle.clap.specs.declared.error.kind.ErrorKind.TheVariants.{DisplayHelp, DisplayVersion, OutOfMemory}
use Rattle.clap.specs.declared.parser.matches.ArgMatches.{ArgMatches}
use Rattle.clap.specs.declared.parser.matches.ArgMatches.TheViews.{out-ArgMatches, out-SubCommand}
use Rattle.clap.specs.declared.parser.matches.Found.{Found}
use Rattle.clap.specs.declared.parser.matches.SubCommand.{SubCommand}
use Rattle.clap.proofs.WalkLemmas.{one_text-rows}
use Rattle.afdx_alone.specs.declared.link.Alone.{Alone}
use Rattle.afdx_arguments.specs.declared.request.NoRequest.{NoRequest}
use Rattle.afdx_arguments.specs.declared.request.NoRequest.TheVariants.{Help, Usage, Memory}
use Rattle.afdx_arguments.specs.declared.request.NetworkRequest.{NetworkRequest}
use Rattle.afdx_arguments.specs.declared.request.Request.{Request}
use Rattle.afdx_arguments.specs.declared.request.Request.TheVariants as request
use Rattle.afdx_arguments.specs.Commands.{alone_app, check_app, size_app, paths_app, run_app, inputs_app, trace_app, explain_app, compare_app, program}
use Rattle.afdx_arguments.specs.Commands.{network_path_app, network_paths_app, network_run_app, network_inputs_app, network_program}
use Rattle.afdx_arguments.specs.Explaining.{HasEntry}
use Rattle.afdx_arguments.specs.Requests.{HasRecordings, HasNumber, HasLink, AsksFor, AsksOfNetwork, AsksIn, Explains, Reads}
use Rattle.afdx_arguments.specs.Requests.{is_network, fault_in, faults_of, HasMatches, HasNoMatches}

pub simple : is_simple program ≡ true
unfolding program alone_app check_app size_app paths_app run_app inputs_app trace_app explain_app compare_app
simple = refl

pub simple_and_free : is_simple_and_free program ≡ true
unfolding program alone_app check_app size_app paths_app run_app inputs_app trace_app explain_app compare_app
simple_and_free = refl

pub network_simple : is_simple network_program ≡ true
unfolding network_program network_path_app network_paths_app network_run_app network_inputs_app
network_simple = refl

pub network_simple_and_free : is_simple_and_free network_program ≡ true
unfolding network_program network_path_app network_paths_app network_run_app network_inputs_app
network_simple_and_free = refl

-- a text is one number, or none
one_reading : {E : Type 0} (t : Text) (e : E) (n : ℕ) → ParsesUnsigned 64 10 t (Err e) → ParsesUnsigned {E = Unit {0}} 64 10 t (Ok n) → ⊥
one_reading t e n fails reads = fails reads.0

-- what is read of an option is the number of its entry
pub has_number : {E : Type 0} (gives : Text → Result ℕ E → Type 0) → ((t : Text) (r : Result ℕ E) → gives t r → ParsesUnsigned 64 10 t r)
    → (f : Found) (name : Text) (r : Option ℕ) → (one_text f name ≡ None → r ≡ None) → ((t : Text) → one_text f name ≡ Some t → ReadsOne gives t r)
    → MatchOption r ((n : ℕ) → HasNumber name (rows_of f) n → ⊥) (HasNumber name (rows_of f))
has_number gives reads f name None none value = λ n h.
    let entry : one_text f name ≡ Some h.0 = one_text-rows f name ∙ h.1 in
    let failed = value h.0 entry in
    one_reading h.0 failed.0 n (reads h.0 (Err failed.0) failed.1) h.2
has_number {E} gives reads f name (Some n) none value = go (one_text f name) refl
  where
    go : (o : Option Text) → one_text f name ≡ o → HasNumber name (rows_of f) n
    go None e = absurd (let bad = none e in cc)
    go (Some t) e = (t, sym (one_text-rows f name) ∙ e, reads t (Ok n) (value t e))

-- nothing was returned
pub of_none : {A : Type 0} (r : Option A) (P : Type 0) (Q : A → Type 0) → r ≡ None → P → MatchOption r P Q
of_none None P Q e p = p
of_none (Some x) P Q e p = absurd (cc)

-- the subcommand that a parse entered, by its name and its entries
pub entered : (m : ArgMatches) (name : Text) (rows : List Row) → Some name ≡ subcommand_name_of m → Some rows ≡ option_map (λ p. p.1) (subcommand_rows_of m)
    → subcommand_rows_of m ≡ Some (name, rows)
entered m name rows = go (out-ArgMatches m).subcommand
  where
    go : (sub : Option (Box SubCommand Global)) → Some name ≡ option_map (λ b. (out-SubCommand (box_value b)).name.now) sub → Some rows ≡ option_map (λ p. p.1) (subcommand_rows sub)
        → subcommand_rows sub ≡ Some (name, rows)
    go None n r = absurd (cc)
    go (Some b) n r = cc

-- ---- what a subcommand of a name asks for

-- two names of one thing begin alike
begins : (name a b : Text) → name ≡ a → name ≡ b → get_or a 0 0 ≡ get_or b 0 0
begins name a b is_a is_b = ap (λ (t : Text). get_or t 0 0) (sym is_a ∙ is_b)

module _ (name : Text) (rows : List Row) where
  -- the name of another subcommand begins with another letter
  other : (a b : Text) → (get_or a 0 0 ≡ get_or b 0 0 → ⊥) → name ≡ a → name ≡ b → ⊥
  other a b differ is_a is_b = differ (begins name a b is_a is_b)

  pub no_link : name ≡ codes "alone" → ((link : Alone) → HasLink rows link → ⊥) → (r : Request) → AsksFor (Some (name, rows)) r → ⊥
  no_link named none = go where
    go : (r : Request) → AsksFor (Some (name, rows)) r → ⊥
    go (request.Alone link) h = none link h.1
    go (request.Check table form) h = other (codes "alone") (codes "check") (λ bad. omega (arith, bad)) named h.0
    go (request.Size table form) h = other (codes "alone") (codes "size") (λ bad. omega (arith, bad)) named h.0
    go (request.Run paths options) h = other (codes "alone") (codes "run") (λ bad. omega (arith, bad)) named h.0
    go (request.Measure inputs form) h = other (codes "alone") (codes "measure") (λ bad. omega (arith, bad)) named h.0
    go (request.Survey inputs form) h = other (codes "alone") (codes "survey") (λ bad. omega (arith, bad)) named h.0
    go (request.Trace paths options) h = other (codes "alone") (codes "trace") (λ bad. omega (arith, bad)) named h.0
    go (request.Explain entry) h = other (codes "alone") (codes "explain") (λ bad. omega (arith, bad)) named h.0
    go (request.Compare compare recordings form) h = other (codes "alone") (codes "compare") (λ bad. omega (arith, bad)) named h.0
    go (request.Network r) h = h

  pub no_entry : name ≡ codes "explain" → ((entry : List ℕ) → HasEntry rows entry → ⊥) → (r : Request) → AsksFor (Some (name, rows)) r → ⊥
  no_entry named none = go where
    go : (r : Request) → AsksFor (Some (name, rows)) r → ⊥
    go (request.Explain entry) h = none entry.now h.1
    go (request.Alone link) h = other (codes "explain") (codes "alone") (λ bad. omega (arith, bad)) named h.0
    go (request.Check table form) h = other (codes "explain") (codes "check") (λ bad. omega (arith, bad)) named h.0
    go (request.Size table form) h = other (codes "explain") (codes "size") (λ bad. omega (arith, bad)) named h.0
    go (request.Run paths options) h = other (codes "explain") (codes "run") (λ bad. omega (arith, bad)) named h.0
    go (request.Measure inputs form) h = other (codes "explain") (codes "measure") (λ bad. omega (arith, bad)) named h.0
    go (request.Survey inputs form) h = other (codes "explain") (codes "survey") (λ bad. omega (arith, bad)) named h.0
    go (request.Trace paths options) h = other (codes "explain") (codes "trace") (λ bad. omega (arith, bad)) named h.0
    go (request.Compare compare recordings form) h = other (codes "explain") (codes "compare") (λ bad. omega (arith, bad)) named h.0
    go (request.Network r) h = h

  other_at : (k : ℕ) (a b : Text) → (get_or a k 0 ≡ get_or b k 0 → ⊥) → name ≡ a → name ≡ b → ⊥
  other_at k a b differ is_a is_b = differ (ap (λ (t : Text). get_or t k 0) (sym is_a ∙ is_b))

  pub no_recordings : name ≡ codes "compare" → ((recordings : Recordings) → HasRecordings rows recordings → ⊥) → (r : Request) → AsksFor (Some (name, rows)) r → ⊥
  no_recordings named none = go where
    go : (r : Request) → AsksFor (Some (name, rows)) r → ⊥
    go (request.Compare compare recordings form) h = none recordings h.2
    go (request.Alone link) h = other (codes "compare") (codes "alone") (λ bad. omega (arith, bad)) named h.0
    go (request.Check table form) h = other_at 1 (codes "compare") (codes "check") (λ bad. omega (arith, bad)) named h.0
    go (request.Size table form) h = other (codes "compare") (codes "size") (λ bad. omega (arith, bad)) named h.0
    go (request.Run paths options) h = other (codes "compare") (codes "run") (λ bad. omega (arith, bad)) named h.0
    go (request.Measure inputs form) h = other (codes "compare") (codes "measure") (λ bad. omega (arith, bad)) named h.0
    go (request.Survey inputs form) h = other (codes "compare") (codes "survey") (λ bad. omega (arith, bad)) named h.0
    go (request.Trace paths options) h = other (codes "compare") (codes "trace") (λ bad. omega (arith, bad)) named h.0
    go (request.Explain entry) h = other (codes "compare") (codes "explain") (λ bad. omega (arith, bad)) named h.0
    go (request.Network r) h = h

-- an error of `clap`
pub refused : (kinds : Kinds) (e : Error) (n : NoRequest) → HasKind kinds e → Explains (kind_of e) n → HasNoMatches kinds n
refused kinds e (Help text) (inl memory) (inl is) = absurd (let bad : OutOfMemory ≡ DisplayHelp = sym memory ∙ is in cc)
refused kinds e (Help text) (inl memory) (inr is) = absurd (let bad : OutOfMemory ≡ DisplayVersion = sym memory ∙ is in cc)
refused kinds e (Help text) (inr among) is = (kind_of e, among, is)
refused kinds e Usage (inl memory) is = absurd (is.1 memory)
refused kinds e Usage (inr among) is = (kind_of e, among, is.0)
refused kinds e Memory h is = tt

-- ---- what one of the two programs makes of the arguments is what they are read as

module _ (arguments : List Text) (b : Bool) (is : is_network arguments ≡ b) where
  faults : faults_of arguments ≡ fault_in b arguments
  faults = ap (λ (x : Bool). fault_in x arguments) is

  pub asks_by : (r : Request) → fault_in b arguments ≡ [] → AsksIn b arguments r → Reads arguments (Ok r)
  asks_by r none asks = (faults ∙ none, subst (λ (x : Bool). AsksIn x arguments r) (sym is) asks)

  pub asks_nothing_by : fault_in b arguments ≡ [] → ((r : Request) → AsksIn b arguments r → ⊥) → Reads arguments (Err Usage)
  asks_nothing_by none nothing = inr (faults ∙ none, λ r asks. nothing r (subst (λ (x : Bool). AsksIn x arguments r) is asks))

  pub no_matches_by : (n : NoRequest) → HasNoMatches (fault_in b arguments) n → Reads arguments (Err n)
  no_matches_by (Help text) h = (h.0, subst (λ (k : Kinds). IsAmong h.0 k) (sym faults) h.1, h.2)
  no_matches_by Usage h = inl (h.0, subst (λ (k : Kinds). IsAmong h.0 k) (sym faults) h.1, h.2)
  no_matches_by Memory h = tt

-- where the arguments of networks ask for nothing, no request is asked for
pub none_of_networks : (arguments : List Text) → ((r : NetworkRequest) → AsksOfNetwork (subcommand_of network_program (drop 1 arguments)) r → ⊥)
    → (r : Request) → AsksIn true arguments r → ⊥
none_of_networks arguments none (request.Network r) h = none r h
none_of_networks arguments none (request.Alone link) h = h
none_of_networks arguments none (request.Check path form) h = h
none_of_networks arguments none (request.Size path form) h = h
none_of_networks arguments none (request.Run paths options) h = h
none_of_networks arguments none (request.Measure inputs form) h = h
none_of_networks arguments none (request.Survey inputs form) h = h
none_of_networks arguments none (request.Trace paths options) h = h
none_of_networks arguments none (request.Explain entry) h = h
none_of_networks arguments none (request.Compare compare recordings form) h = h

-- an error that a call returned
pub reads_error : (arguments : List Text) (r : Result Request NoRequest) (n : NoRequest) → IsErr r × IsErrAnd r (λ x. x ≡ n) → Reads arguments (Err n) → Reads arguments r
reads_error arguments (Ok x) n e h = absurd e.1
reads_error arguments (Err x) n e h = subst (λ (m : NoRequest). Reads arguments (Err m)) (sym e.1) h

-- the arguments of networks are those after the first
module _ (arguments : List (String Global)) (c : Command) (app : app_of c ≡ network_program) (is : is_network (map string_bytes arguments) ≡ true) where
  rest : List Text
  rest = map string_bytes (take (length arguments - 1) (drop 1 arguments))

  same : rest ≡ drop 1 (map string_bytes arguments)
  unfolding rest
  same = ap (map string_bytes) (take_rest arguments 1) ∙ sym (drop-map string_bytes 1 arguments)

  kinds : fault_of (app_of c) rest ≡ fault_in true (map string_bytes arguments)
  kinds = ap (λ (a : App). fault_of a rest) app ∙ ap (fault_of network_program) same

  entry : subcommand_of (app_of c) rest ≡ subcommand_of network_program (drop 1 (map string_bytes arguments))
  entry = ap (λ (a : App). subcommand_of a rest) app ∙ ap (subcommand_of network_program) same

  pub network_without : (n : NoRequest) → HasNoMatches (fault_of (app_of c) (map string_bytes (take (length arguments - 1) (drop 1 arguments)))) n → Reads (map string_bytes arguments) (Err n)
  unfolding rest
  network_without n h = no_matches_by (map string_bytes arguments) true is n (subst (λ (k : Kinds). HasNoMatches k n) kinds h)

  pub network_found : (sub : Option (Text × List Row)) (r : NetworkRequest) → HasMatches (app_of c) (map string_bytes (take (length arguments - 1) (drop 1 arguments))) sub → AsksOfNetwork sub r
      → Reads (map string_bytes arguments) (Ok (request.Network r))
  unfolding rest
  network_found sub r found asks =
      asks_by (map string_bytes arguments) true is (request.Network r) (sym kinds ∙ found.0) (subst (λ (x : Option (Text × List Row)). AsksOfNetwork x r) (found.1 ∙ entry) asks)

  pub network_nothing : (sub : Option (Text × List Row)) → HasMatches (app_of c) (map string_bytes (take (length arguments - 1) (drop 1 arguments))) sub
      → ((r : NetworkRequest) → AsksOfNetwork sub r → ⊥)
      → Reads (map string_bytes arguments) (Err Usage)
  unfolding rest
  network_nothing sub found nothing =
      asks_nothing_by (map string_bytes arguments) true is (sym kinds ∙ found.0)
      (none_of_networks (map string_bytes arguments) (λ r asks. nothing r (subst (λ (x : Option (Text × List Row)). AsksOfNetwork x r) (sym (found.1 ∙ entry)) asks)))
