-- A history: what a seat of a bank or its desk has done, its account with it; and what each kind of step adds to it.
-- All of it is this project's own.
use Rattle.std.specs.Prelude.{ℕ, ◌+◌, List, [], ◌∷◌, ◌++◌}
use Rattle.flux_system.specs.System.{FluxSystem}
use Rattle.shot_core.specs.declared.roles.Role.{Role}
use Rattle.shot_core.specs.declared.roles.Role.TheVariants.{Actor}
use Rattle.shot_core.specs.declared.views.View.{View}
use Rattle.shot_core.specs.Views.{new_view, spent_view, after_take, after_give, after_hire, after_retire}
use Rattle.flux_accounts.specs.declared.histories.Kind.{Kind}
use Rattle.flux_accounts.specs.declared.histories.Kind.TheVariants.{Look, Won, Lost, Give}
use Rattle.flux_accounts.specs.declared.histories.Entry.{Entry}
use Rattle.flux_accounts.specs.declared.histories.History.{History}

abbrev pub account_of : History → View
account_of h = h.account

-- the log with one step more
abbrev pub log_with : History → Kind → ℕ → ℕ → List Entry
log_with h kind patch value = h.log ++ record { kind = kind; patch = patch; value = value } ∷ []

-- after a look at patch j, whose word had this value
abbrev pub after_looking : History → ℕ → ℕ → History
after_looking h j value = record h { looks = h.looks + 1; log = log_with h Look j value }

-- after a won take of t nanolumens from patch i, whose word has 0 since
abbrev pub after_winning : History → ℕ → ℕ → History
after_winning h i t = record h { account = after_take h.account i t; log = log_with h Won i 0 }

-- after a lost take from patch i, whose word had this value
abbrev pub after_losing : History → ℕ → ℕ → History
after_losing h i found = record h { lost = h.lost + 1; log = log_with h Lost i found }

-- after all that was in hand for patch j was given to it, whose word has this value since
abbrev pub after_giving : History → ℕ → ℕ → History
after_giving h j value = record h { account = after_give h.account j; log = log_with h Give j value }

-- the history of one that has done nothing yet
abbrev pub new_history : FluxSystem → List ℕ → Role → History
new_history s direct role = record { account = new_view s direct role; looks = 0; lost = 0; log = [] }

-- the desk's history after it hired a seat, and that of the seat
abbrev pub after_hiring : History → History
after_hiring desk = record desk { account = after_hire desk.account }

abbrev pub newcomer : History → History
newcomer desk = new_history desk.account.system desk.account.direct Actor

-- the desk's history after it retired a seat, and what is left of the seat's
abbrev pub after_retiring : History → History → History
after_retiring desk h = record desk { account = after_retire desk.account h.account }

abbrev pub spent_history : History
spent_history = record { account = spent_view; looks = 0; lost = 0; log = [] }
