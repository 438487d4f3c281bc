-- The version that a project file says. The numbers are this project's own.
use Rattle.std.specs.Prelude.{ℤ, pos, ◌==◌, if◌then◌else◌, codes, Option, Some, None, option_and_then}
use Rattle.toml.specs.Data.{Members, get_member, as_integer}
use Rattle.project_file.specs.declared.versions.Version.{Version}
use Rattle.project_file.specs.declared.versions.Version.TheVariants.{One, Two}

-- the version of a number, where there is one
abbrev pub version_numbered : ℤ → Option Version
version_numbered (pos n) = if n == 1 then Some One else (if n == 2 then Some Two else None)
version_numbered _ = None

-- the version that a file says, where it says one
abbrev pub version_in : Members → Option Version
version_in t = option_and_then version_numbered (option_and_then as_integer (get_member (codes "version") t))
