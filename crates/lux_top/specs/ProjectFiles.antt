-- A project file with the photometry files that it names: the lit room that they say.
use Rattle.std.specs.Prelude.{◌≡◌, ◌⊎◌, ℕ, List, [], ◌∷◌, take, slice_get, Ok, Some}
use Rattle.lit_room.specs.LitRooms.{Lighting, lit_room_of}
use Rattle.lit_room.specs.declared.faults.LightFault.{LightFault}
use Rattle.lit_room.specs.declared.faults.LightFault.TheVariants as light
use Rattle.lux_io.specs.Shelves.{ShelfState, IsFile}
use Rattle.photo_web.specs.Web.{PhotometricWeb}
use Rattle.photo_web.specs.declared.photometry.Photometry.{Photometry}
use Rattle.project_file.specs.Projects.{Project, project_of}
use Rattle.lux_answers.specs.declared.answers.Answer.{Answer}
use Rattle.lux_answers.specs.declared.answers.Answer.TheVariants as answer
use Rattle.lux_plans.specs.Plans.{Plan, Give, file, accept, and_then, each}
use Rattle.lux_top.specs.PhotometryFiles.{photometry_file, most_photometry_bytes, IsFilePhotometry}

-- the most bytes of a project file: 4 MiB
abbrev pub most_project_bytes : ℕ
most_project_bytes = 4194304

-- the project of a text, or the refusal of the text
abbrev pub project_text : List ℕ → Plan Project
project_text text = accept (project_of text) answer.Project

-- the project of a file
abbrev pub project_file : List ℕ → Plan Project
project_file name = and_then (file name most_project_bytes) project_text

-- the web of a photometry file
abbrev pub web_file : List ℕ → Plan PhotometricWeb
web_file name = and_then (photometry_file name) (λ photometry. Give photometry.web)

-- the answer for a project and webs that are no lit room
abbrev pub light_refusal : LightFault → Answer
light_refusal (light.Room fault) = answer.Room fault
light_refusal (light.Fixture fault) = answer.Fixture fault
light_refusal (light.Limits fault) = answer.Limits fault
light_refusal (light.Grid check fault) = answer.Grid check fault
light_refusal light.Memory = answer.Memory

-- the lit room of a project and its webs, or the refusal
abbrev pub lit_room : Lighting → Plan Lighting
lit_room lighting = accept (lit_room_of lighting) light_refusal

-- the lit room of a project, whose photometry files are read in the order in which they are named first
abbrev pub lit_project : Project → Plan Lighting
lit_project project = and_then (each web_file project.files) (λ webs. lit_room (record { project = project; webs = webs }))

-- the lit room of a file
abbrev pub lit_room_file : List ℕ → Plan Lighting
lit_room_file name = and_then (project_file name) lit_project

-- the file has a text that says this project
pub record IsFileProject (shelf : ShelfState) (name : List ℕ) (project : Project) : Type 0 where
  pub text : List ℕ
  pub is_file : IsFile shelf name most_project_bytes text
  pub accepted : project_of text ≡ Ok project

-- the file says a photometry of this web
pub record IsFileWeb (shelf : ShelfState) (name : List ℕ) (web : PhotometricWeb) : Type 0 where
  pub photometry : Photometry
  pub is_read : IsFilePhotometry shelf name photometry
  pub same : web ≡ photometry.web

-- these are the webs that the files say, one for each
abbrev pub AreFileWebs : ShelfState → List (List ℕ) → List PhotometricWeb → Type 0
AreFileWebs shelf [] [] = Unit {0}
AreFileWebs shelf (name ∷ names) (web ∷ webs) = IsFileWeb shelf name web × AreFileWebs shelf names webs
AreFileWebs shelf [] (web ∷ webs) = ⊥
AreFileWebs shelf (name ∷ names) [] = ⊥

-- the file says this project, and the project's files say these webs
pub record IsFileLighting (shelf : ShelfState) (name : List ℕ) (lighting : Lighting) : Type 0 where
  pub project : IsFileProject shelf name lighting.project
  pub webs : AreFileWebs shelf lighting.project.files lighting.webs

-- the file says this lit room
pub record IsFileLitRoom (shelf : ShelfState) (name : List ℕ) (lighting : Lighting) : Type 0 where
  pub is_read : IsFileLighting shelf name lighting
  pub accepted : lit_room_of lighting ≡ Ok lighting

-- the file is the next of some photometry files, where those before it are read and say photometries
pub record IsNextOf (shelf : ShelfState) (names : List (List ℕ)) (file : List ℕ) : Type 0 where
  pub before : ℕ
  pub is_next : slice_get names before ≡ Some file
  pub webs : List PhotometricWeb
  pub are_read : AreFileWebs shelf (take before names) webs

-- the file is the next of the project's photometry files
pub record IsNextPhotometry (shelf : ShelfState) (name file : List ℕ) : Type 0 where
  pub project : Project
  pub is_read : IsFileProject shelf name project
  pub next : IsNextOf shelf project.files file

-- the file is the next to be read: the project's own, or the next of its photometry files; and it has so many bytes at most
abbrev pub IsNextFile : ShelfState → List ℕ → List ℕ → ℕ → Type 0
IsNextFile shelf name file limit =
    ((file ≡ name) × (limit ≡ most_project_bytes))
    ⊎ (IsNextPhotometry shelf name file × (limit ≡ most_photometry_bytes))
