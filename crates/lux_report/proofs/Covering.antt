-- The checks of a project beside their points and answers, one check more at a time.
use Rattle.std.proofs.Common.{◌≡◌, ℕ, ◌+◌, ◌<◌, ◌≤◌, List, [], ◌++◌, length, get_or, take, refl, sym, ap, ◌∙◌, arith}
use Rattle.std.specs.List.{flat_map, zip}
use Rattle.std.proofs.lemmas.List.{flat_map_more, take_more, take_all}
use Rattle.std.proofs.lemmas.Slice.Zip.{length-zip, get_or-zip}
use Rattle.compliance.specs.declared.checks.CheckSpec.{CheckSpec}
use Rattle.compliance.specs.declared.judging.Judged.{Judged}
use Rattle.compliance.specs.declared.verdicts.Verdict.TheVariants.{Pass}
use Rattle.project_file.specs.Projects.{Project}
use Rattle.lux_report.specs.Facts.{Facts, CoversChecks, judged_checks}

-- what `judged[i]` is taken for where there is no answer
abbrev pub unjudged : Judged
unjudged = record { average = (0, 0); uniformity = (0, 0); average_verdict = Pass; uniformity_verdict = Pass }

module _ (p : Project) (f : Facts) (covers : CoversChecks p f) where
  -- there is one for each check
  pub checks_count : length (judged_checks p f) ≡ length p.checks
  checks_count =
      let points = covers.points in
      let judged = covers.judged in
      let both = length-zip f.points f.judged in
      let all = length-zip p.checks (zip f.points f.judged) in
      omega arith

  -- what stands beside check i
  check_at : (i : ℕ) (check : CheckSpec) (judged : Judged) → i < length p.checks
      → get_or (judged_checks p f) i (check, ([], judged)) ≡ (get_or p.checks i check, (get_or f.points i [], get_or f.judged i judged))
  check_at i check judged below =
      let points = covers.points in
      let answers = covers.judged in
      let both = length-zip f.points f.judged in
      let in_points : i < length f.points = omega arith in
      let in_judged : i < length f.judged = omega arith in
      let in_both : i < length (zip f.points f.judged) = omega arith in
      rw (get_or-zip p.checks (zip f.points f.judged) i (check, ([], judged)) below in_both, get_or-zip f.points f.judged i ([], judged) in_points in_judged) refl

  -- a list that grew by the list of check i
  pub checks_grow : {X : Type 0} (lists : CheckSpec × (List (ℕ × ℕ) × Judged) → List X) (front : List X) (i : ℕ) (before after : List X)
      (check : CheckSpec) (points : List (ℕ × ℕ)) (judged : Judged) → i < length p.checks
      → check ≡ get_or p.checks i check → points ≡ get_or f.points i [] → judged ≡ get_or f.judged i unjudged
      → before ≡ front ++ flat_map lists (take i (judged_checks p f))
      → after ≡ before ++ lists (check, (points, judged))
      → after ≡ front ++ flat_map lists (take (i + 1) (judged_checks p f))
  checks_grow {X = X} lists front i before after check points judged below the_check the_points the_judged so_far next =
      let all = judged_checks p f in
      let count = checks_count in
      let within : i < length all = omega arith in
      let here : (check, (points, judged)) ≡ get_or all i (check, ([], unjudged)) = sym (check_at i check unjudged below ∙ cc) in
      let more = take_more all i (check, ([], unjudged)) within in
      next
      ∙ (ap (λ (xs : List X). xs ++ lists (check, (points, judged))) so_far
      ∙ (flat_map_more lists front (take i all) (check, (points, judged))
      ∙ ap (λ (xs : List (CheckSpec × (List (ℕ × ℕ) × Judged))). front ++ flat_map lists xs) (rw (here, more) refl)))

  -- a list that has grown by the lists of all checks
  pub checks_end : {X : Type 0} (lists : CheckSpec × (List (ℕ × ℕ) × Judged) → List X) (n : ℕ) → length p.checks ≤ n
      → flat_map lists (take n (judged_checks p f)) ≡ flat_map lists (judged_checks p f)
  checks_end lists n above = let count = checks_count in ap (flat_map lists) (take_all n (judged_checks p f) (omega arith))
