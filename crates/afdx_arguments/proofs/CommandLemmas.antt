-- A command with one more argument or subcommand, the last.
use Rattle.std.proofs.Common.{◌≡◌, ap, ap₂, ◌∙◌, Result, Ok, Err}
use Rattle.std.specs.Prelude.{IfOk, ◌||◌, false}
use Rattle.clap.specs.Words.{AddsArg, AddsSubcommand, App, Rule, app_of, rule_of, shape_of, with_rule, with_subcommand}
use Rattle.clap.specs.declared.builder.arg.Arg.{Arg}
use Rattle.clap.specs.declared.builder.command.Command.{Command}
use Rattle.clap.specs.declared.builder.command.Command.TheViews.{out-Command}

-- a command that is this to `clap`, and none of whose arguments is one of its subcommands too
abbrev pub Is : Command → App → Type 0
Is c app = (app_of c ≡ app) × ((out-Command c).has_globals ≡ false)

pub with_argument : (old new : Command) (a : Arg) (app : App) (rule : Rule) → Is old app → rule_of a ≡ rule → a.global ≡ false → AddsArg old a new → Is new (with_rule app rule)
with_argument old new a app rule is is_rule local adds =
    (adds.shape local ∙ ap₂ (λ b r. with_rule b r) is.0 is_rule, adds.globals ∙ ap₂ (λ x y. x || y) is.1 local)

pub if_argument : {E : Type 0} (old : Command) (a : Arg) (r : Result Command E) (app : App) (rule : Rule) → Is old app → rule_of a ≡ rule → a.global ≡ false → IfOk r (AddsArg old a)
    → IfOk r (λ c. app_of c ≡ with_rule app rule) × IfOk r (λ c. (out-Command c).has_globals ≡ false)
if_argument old a (Ok new) app rule is is_rule local adds = with_argument old new a app rule is is_rule local adds
if_argument old a (Err e) app rule is is_rule local adds = (tt, tt)

-- the rule of the last argument is this
pub if_rule : {E : Type 0} (r : Result Command E) (app : App) (a : Arg) (rule : Rule) → rule_of a ≡ rule → IfOk r (λ c. app_of c ≡ with_rule app (rule_of a))
    → IfOk r (λ c. app_of c ≡ with_rule app rule)
if_rule (Ok new) app a rule is h = h ∙ ap (λ x. with_rule app x) is
if_rule (Err e) app a rule is h = tt

-- ---- subcommands

-- the program before the last command is this
pub if_program : {E : Type 0} (r : Result Command E) (program : Command) (app inner : App) → app_of program ≡ app → IfOk r (λ c. app_of c ≡ with_subcommand (app_of program) inner.top)
    → IfOk r (λ c. app_of c ≡ with_subcommand app inner.top)
if_program (Ok new) program app inner is h = h ∙ ap (λ (a : App). with_subcommand a inner.top) is
if_program (Err e) program app inner is h = tt

pub with_one_more : (old sub new : Command) (app inner : App) → AddsSubcommand old sub new → (out-Command sub).has_globals ≡ false → app_of old ≡ app → app_of sub ≡ inner
    → app_of new ≡ with_subcommand app inner.top
with_one_more old sub new app inner adds local is_old is_sub =
    adds.shape local ∙ ap (λ (a : App). with_subcommand a (shape_of sub)) is_old ∙ ap (λ (a : App). with_subcommand app a.top) is_sub

pub if_one_more : {E : Type 0} (old sub : Command) (r : Result Command E) (app inner : App) → IfOk r (AddsSubcommand old sub) → (out-Command sub).has_globals ≡ false
    → app_of old ≡ app → app_of sub ≡ inner → IfOk r (λ c. app_of c ≡ with_subcommand app inner.top)
if_one_more old sub (Ok new) app inner adds local is_old is_sub = with_one_more old sub new app inner adds local is_old is_sub
if_one_more old sub (Err e) app inner adds local is_old is_sub = tt
