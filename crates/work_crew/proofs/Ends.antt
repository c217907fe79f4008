-- The exploration ends: paths grow towards the bound, and each has few kids.
use Rattle.std.proofs.Common.{◌≡◌, ℕ, suc, ◌+◌, ◌-◌, ◌*◌, ◌^◌, ◌<◌, ◌≤◌, List, [], ◌∷◌, ◌++◌, length, ◌∙◌, ap, arith}
use Rattle.std.specs.List.{sum_by}
use Rattle.std.proofs.Math.Nat.{pow-le-pow_right, pow-suc, mul-le-mul_right}
use Rattle.std.proofs.lemmas.List.{length-append}
use Rattle.std.proofs.lemmas.List.Sums.{sum_by-append, sum_by_push, sum_by-le}
use Rattle.std.proofs.lemmas.List.Elements.{All-weaker}
use Rattle.ct_pairs.specs.declared.job.Job.{Job}
use Rattle.path_tree.specs.declared.path.Path.{Path}
use Rattle.path_run.specs.declared.record_of.RecordOf.{RecordOf}
use Rattle.path_run.specs.Records.{IsKid, IsRecord}
use Rattle.work_crew.specs.Exploring.{work_of, work}

kids_work : (job : Job) (r : RecordOf) (kid : Path) → IsKid job r kid → work_of job.bound kid ≤ 257 ^ (job.bound - length r.path.nexts)
kids_work job r kid k = pow-le-pow_right {n = 257} (omega arith) (omega (arith, k.within, k.longer, ap length k.extends, length-append r.path.nexts k.suffix))

pub work_less : (job : Job) (r : RecordOf) (rest : List Path) → IsRecord job r → length r.path.nexts ≤ job.bound → work job.bound (rest ++ r.kids) < work job.bound (rest ++ r.path ∷ [])
unfolding work
work_less job r rest h short =
    let X : ℕ = 257 ^ (job.bound - length r.path.nexts) in
    let kids : sum_by (work_of job.bound) r.kids ≤ length r.kids * X = sum_by-le (work_of job.bound) X r.kids (All-weaker (IsKid job r) (λ kid. work_of job.bound kid ≤ X) (λ kid k. kids_work job r kid k) r.kids h.kids) in
    let most : length r.kids * X ≤ 256 * X = mul-le-mul_right X h.few in
    let positive : 1 ≤ X = pow-le-pow_right {n = 257} (omega arith) {i = 0} (omega arith) in
    let longer : job.bound + 1 - length r.path.nexts ≡ suc (job.bound - length r.path.nexts) = omega (arith, short) in
    let whole : work_of job.bound r.path ≡ X * 257 = ap (λ n. 257 ^ n) longer ∙ pow-suc 257 (job.bound - length r.path.nexts) in
    omega (arith, kids, h.few, most, positive, whole, sum_by-append (work_of job.bound) rest r.kids, sum_by_push (work_of job.bound) rest r.path)
