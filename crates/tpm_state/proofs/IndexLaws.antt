-- Indices that are read are spelled so, and what is spelled so is read.
use Rattle.std.proofs.Common.{◌≡◌, ℕ, ◌^◌, ◌<◌, Bool, true, false, List, ◌++◌, length, Option, Some, None, Ok, refl, sym, ap, subst, ◌∙◌}
use Rattle.std.specs.Int.{w16, w32, to_be_bytes}
use Rattle.nv_index.specs.declared.index.Index.{Index}
use Rattle.nv_index.specs.declared.index.Written.{Written}
use Rattle.nv_index.specs.Table.{has_written}
use Rattle.pl_layout.proofs.Steps.{bind_ok, bind_eq, ok_is}
use Rattle.pl_layout.proofs.Fields.{IsBytes, Takes-then, Takes-nothing, Taken, Grammar, bytes_take, bytes_again, wide16, wide32, number_grammar}
use Rattle.tpm_state.specs.Field.{fault}
use Rattle.tpm_state.specs.Indices.{written_text, index_text, WrittenFits, IndexFits, written_at, index_at}
use Rattle.tpm_state.proofs.Appends.{regroup_two, regroup_five}

-- ---- the last write

written_takes : (all : ℕ) (is_written : Bool) (bytes : List ℕ) (x : Option Written × List ℕ) → IsBytes bytes → written_at all is_written bytes ≡ Ok x → Taken written_text (WrittenFits is_written) bytes x
unfolding written_at
written_takes all false bytes x fits e =
    subst (λ (y : Option Written × List ℕ). Taken written_text (WrittenFits false) bytes y) (ok_is (None, bytes) x e) (record { takes = Takes-nothing bytes fits; fits = refl })
written_takes all true bytes x fits e =
    let a = bind_ok e in
    let b = bind_ok a.second in
    let number = (number_grammar wide32 (fault all)).takes bytes a.value fits a.first in
    let value = bytes_take (fault all) 34 a.value.1 b.value number.takes.rest_fits b.first in
    let made : Option Written × List ℕ = (Some (record { number = a.value.0; value = b.value.0 }), b.value.1) in
    subst (λ (y : Option Written × List ℕ). Taken written_text (WrittenFits true) bytes y) (ok_is made x b.second) (record {
      takes = Takes-then number.takes value.takes;
      fits = (refl, number.fits, value.count);
    })

there_again : (all : ℕ) (w : Written) (rest : List ℕ) → w.number < 2 ^ 32 → length w.value ≡ 34 → written_at all true ((to_be_bytes w32 w.number ++ w.value) ++ rest) ≡ Ok (Some w, rest)
unfolding written_at
there_again all w rest lt len =
    ap (written_at all true) (regroup_two (to_be_bytes w32 w.number) w.value rest)
    ∙ bind_eq _ (w.number, w.value ++ rest) ((number_grammar wide32 (fault all)).again w.number (w.value ++ rest) lt)
    (bind_eq _ (w.value, rest) (bytes_again (fault all) 34 w.value rest len) refl)

nothing_again : (all : ℕ) (rest : List ℕ) → written_at all false rest ≡ Ok (None, rest)
unfolding written_at
nothing_again all rest = refl

written_again : (all : ℕ) (is_written : Bool) (written : Option Written) (rest : List ℕ) → WrittenFits is_written written → written_at all is_written (written_text written ++ rest) ≡ Ok (written, rest)
written_again all is_written None rest fits = subst (λ (b : Bool). written_at all b rest ≡ Ok (None, rest)) (sym fits) (nothing_again all rest)
written_again all is_written (Some w) rest fits =
    subst (λ (b : Bool). written_at all b ((to_be_bytes w32 w.number ++ w.value) ++ rest) ≡ Ok (Some w, rest)) (sym fits.0) (there_again all w rest fits.1 fits.2)

-- ---- an index

index_takes : (all : ℕ) (bytes : List ℕ) (x : Index × List ℕ) → IsBytes bytes → index_at all bytes ≡ Ok x → Taken index_text IndexFits bytes x
unfolding index_at
index_takes all bytes x fits e =
    let a = bind_ok e in
    let b = bind_ok a.second in
    let c = bind_ok b.second in
    let d = bind_ok c.second in
    let f = bind_ok d.second in
    let handle = (number_grammar wide32 (fault all)).takes bytes a.value fits a.first in
    let attributes = (number_grammar wide32 (fault all)).takes a.value.1 b.value handle.takes.rest_fits b.first in
    let policy = bytes_take (fault all) 32 b.value.1 c.value attributes.takes.rest_fits c.first in
    let size = (number_grammar wide16 (fault all)).takes c.value.1 d.value policy.takes.rest_fits d.first in
    let written = written_takes all (has_written b.value.0) d.value.1 f.value size.takes.rest_fits f.first in
    let made : Index × List ℕ = (record { public = record { handle = a.value.0; attributes = b.value.0; policy = c.value.0; size = d.value.0 }; written = f.value.0 }, f.value.1) in
    subst (λ (y : Index × List ℕ). Taken index_text IndexFits bytes y) (ok_is made x f.second) (record {
      takes = Takes-then handle.takes (Takes-then attributes.takes (Takes-then policy.takes (Takes-then size.takes written.takes)));
      fits = record { handle = handle.fits; attributes = attributes.fits; policy = policy.count; size = size.fits; written = written.fits };
    })

index_again : (all : ℕ) (index : Index) (rest : List ℕ) → IndexFits index → index_at all (index_text index ++ rest) ≡ Ok (index, rest)
unfolding index_at
index_again all index rest fits =
    let p = index.public in
    let written = written_text index.written ++ rest in
    let size = to_be_bytes w16 p.size ++ written in
    let policy = p.policy ++ size in
    let attributes = to_be_bytes w32 p.attributes ++ policy in
    ap (index_at all) (regroup_five (to_be_bytes w32 p.handle) (to_be_bytes w32 p.attributes) p.policy (to_be_bytes w16 p.size) (written_text index.written) rest)
    ∙ bind_eq _ (p.handle, attributes) ((number_grammar wide32 (fault all)).again p.handle attributes fits.handle)
    (bind_eq _ (p.attributes, policy) ((number_grammar wide32 (fault all)).again p.attributes policy fits.attributes)
    (bind_eq _ (p.policy, size) (bytes_again (fault all) 32 p.policy size fits.policy)
    (bind_eq _ (p.size, written) ((number_grammar wide16 (fault all)).again p.size written fits.size)
    (bind_eq _ (index.written, rest) (written_again all (has_written p.attributes) index.written rest fits.written) refl))))

pub index_grammar : (all : ℕ) → Grammar (index_at all) index_text IndexFits
index_grammar all = record {
  takes = λ bytes x fits e. index_takes all bytes x fits e;
  again = λ index rest fits. index_again all index rest fits;
}
