-- Notes and a list of tracts have only one account, or one refusal.
use Rattle.std.proofs.Common.{◌≡◌, ℕ, ◌+◌, ◌<◌, List, [], length, get_or, Some, ap, refl, subst}
use Rattle.std.proofs.Common.{sym, ◌∙◌, inl, inr, arith}
use Rattle.std.proofs.lemmas.List.{ext_get_or}
use Rattle.twp_grid.specs.Townships.{Designation}
use Rattle.twp_notes.specs.Records.{Fields, record_at}
use Rattle.twp_plat.specs.Plats.{SurveyPlat}
use Rattle.twp_answers.specs.Answers.{IsNoDescription}
use Rattle.twp_answers.specs.Answers.{AreHundredthsOf}
use Rattle.twp_answers.specs.Tracts.{tract_records, name_in, description_in, IsTractList}
use Rattle.twp_answers.specs.TractFaults.{HasTractFault, IsFirstTractFault, IsFrom, record_of}
use Rattle.twp_answers.specs.TractFaults.{turn_of, verdict_of}
use Rattle.twp_answers.specs.ReportAnswers.{tract_line, IsTractLine, AreTractLines, other_places}
use Rattle.twp_answers.specs.ReportAnswers.{IsAccount, IsAccountOf, IsListRefused, AnswersList}
use Rattle.twp_answers.specs.ReportAnswers.{IsAnswerOnPlat, IsPlatRefused, refusal_lines}
use Rattle.twp_answers.specs.TractLaws.{OneReportAnswer}
use Rattle.twp_answers.specs.declared.stop.Verdict.{Verdict}
use Rattle.twp_answers.specs.declared.stop.Verdict.TheVariants.{Accepted, Refused, TractRefused}
use Rattle.twp_answers.specs.declared.tract_fault.TractFault.{TractFault}
use Rattle.twp_answers.specs.declared.tract_fault.TractFault.TheVariants as fault
use Rattle.twp_answers.proofs.OneAnswer.{one_plat, one_land, one_plat_refusal}
use Rattle.twp_answers.proofs.runs.OneAnswer.{one_hundredths}
use Rattle.twp_answers.proofs.OneAnswer.{one_description_refusal, not_platted}
use Rattle.twp_answers.proofs.TractLands.{one_land_of_tracts}
use Rattle.twp_answers.proofs.FirstTractFaults.{none_before}
use Rattle.twp_grid.specs.Lands.{STANDARD_LOTS}

-- a tract has only one line
one_line : (plat : SurveyPlat) (fields : Fields) (line line' : List ℕ) → IsTractLine plat fields line
    → IsTractLine plat fields line' → line ≡ line'
one_line plat fields line line' is is' =
    let land : is.places ≡ is'.places =
    one_land STANDARD_LOTS plat.township (description_in fields) is.places is'.places is.land is'.land in
    let same : is.hundredths ≡ is'.hundredths =
    one_hundredths plat is'.places is.hundredths is'.hundredths
    (subst (λ p. AreHundredthsOf plat p is.hundredths) land is.acres) is'.acres in
    is.line_is ∙ ap (tract_line (name_in fields)) same ∙ sym is'.line_is

one_lines : (plat : SurveyPlat) (rows : List Fields) (lines lines' : List (List ℕ))
    → AreTractLines plat rows (length rows) lines → AreTractLines plat rows (length rows) lines'
    → lines ≡ lines'
one_lines plat rows lines lines' are are' =
    ext_get_or [] lines lines' (are.count_is ∙ sym are'.count_is) (λ index below.
    let within : index < length rows = subst (λ n. index < n) are.count_is below in
    one_line plat (record_at rows index) (get_or lines index []) (get_or lines' index [])
    (are.each index within) (are'.each index within))

-- tracts have only one account
one_account : (plat : SurveyPlat) (rows : List Fields) (text text' : List ℕ) → IsAccount plat rows text
    → IsAccount plat rows text' → text ≡ text'
one_account plat rows text text' is is' =
    let lines : is.lines ≡ is'.lines = one_lines plat rows is.lines is'.lines is.lines_are is'.lines_are in
    let land : is.places ≡ is'.places =
    one_land_of_tracts STANDARD_LOTS plat.township rows (length rows) is.places is'.places is.land is'.land in
    let total : is.total ≡ is'.total =
    one_hundredths plat is'.places is.total is'.total
    (subst (λ p. AreHundredthsOf plat p is.total) land is.total_is) is'.total_is in
    let remaining : is.remaining ≡ is'.remaining =
    one_hundredths plat (other_places is'.places) is.remaining is'.remaining
    (subst (λ p. AreHundredthsOf plat (other_places p) is.remaining) land is.remaining_is) is'.remaining_is in
    is.text_is ∙ rw (lines, total, remaining) (sym is'.text_is)

-- a list of tracts has no fault
not_faulty : (township : Designation) (bytes : List ℕ) (tract_fault : TractFault)
    → IsTractList STANDARD_LOTS township bytes
    → HasTractFault STANDARD_LOTS township bytes tract_fault → ⊥
not_faulty township bytes fault.TractsTooLarge list has = let most = list.size in omega arith
not_faulty township bytes fault.TooManyTracts list has = let most = list.few in omega arith
not_faulty township bytes (fault.TractRow n) list (inl (e, bad)) = bad list.heading_is
not_faulty township bytes (fault.TractRow n) list (inr is) =
    none_before STANDARD_LOTS township bytes list.size list.heading_is (length (tract_records bytes))
    list.tracts
    (fault.TractRow n) is is.within
not_faulty township bytes (fault.NameRepeated n) list (inl none) = none
not_faulty township bytes (fault.NameRepeated n) list (inr is) =
    none_before STANDARD_LOTS township bytes list.size list.heading_is (length (tract_records bytes))
    list.tracts
    (fault.NameRepeated n) is is.within
not_faulty township bytes (fault.TractRefused n inner) list (inl none) = none
not_faulty township bytes (fault.TractRefused n inner) list (inr is) =
    none_before STANDARD_LOTS township bytes list.size list.heading_is (length (tract_records bytes))
    list.tracts
    (fault.TractRefused n inner) is is.within
not_faulty township bytes (fault.TractsOverlap n) list (inl none) = none
not_faulty township bytes (fault.TractsOverlap n) list (inr is) =
    none_before STANDARD_LOTS township bytes list.size list.heading_is (length (tract_records bytes))
    list.tracts
    (fault.TractsOverlap n) is is.within
not_faulty township bytes fault.Memory list (inl none) = none
not_faulty township bytes fault.Memory list (inr is) = is.has

-- faults at the same record and turn are the same
same_fault : (township : Designation) (bytes : List ℕ) (one other : TractFault)
    → HasTractFault STANDARD_LOTS township bytes one → HasTractFault STANDARD_LOTS township bytes other
    → record_of one ≡ record_of other → turn_of one ≡ turn_of other → one ≡ other
same_fault township bytes fault.Memory other (inl none) has' at_ turn = absurd none
same_fault township bytes fault.Memory other (inr is) has' at_ turn = absurd is.has
same_fault township bytes one fault.Memory has (inl none) at_ turn = absurd none
same_fault township bytes one fault.Memory has (inr is) at_ turn = absurd is.has
same_fault township bytes fault.TractsTooLarge fault.TractsTooLarge has has' at_ turn = refl
same_fault township bytes fault.TooManyTracts fault.TooManyTracts has has' at_ turn = refl
same_fault township bytes (fault.TractRow n) (fault.TractRow n') has has' at_ turn =
    ap (λ k. fault.TractRow k) at_
same_fault township bytes (fault.NameRepeated n) (fault.NameRepeated n') has has' at_ turn =
    ap (λ k. fault.NameRepeated k) at_
same_fault township bytes (fault.TractsOverlap n) (fault.TractsOverlap n') has has' at_ turn =
    ap (λ k. fault.TractsOverlap k) at_
same_fault township bytes (fault.TractRefused n inner) (fault.TractRefused n' inner') (inl none) has' at_
    turn = absurd none
same_fault township bytes (fault.TractRefused n inner) (fault.TractRefused n' inner') (inr is) (inl none)
    at_ turn = absurd none
same_fault township bytes (fault.TractRefused n inner) (fault.TractRefused n' inner') (inr is) (inr is') at_
    turn =
    let here : n ≡ is.index + 2 = is.has.0 in
    let there : n' ≡ is'.index + 2 = is'.has.0 in
    let index : is.index ≡ is'.index = omega arith in
    let same : inner ≡ inner' =
    one_description_refusal STANDARD_LOTS township
    (description_in (record_at (tract_records bytes) is'.index)) inner inner'
    (subst
    (λ i. IsNoDescription STANDARD_LOTS township (description_in (record_at (tract_records bytes) i)) inner)
    index
    is.has.1)
    is'.has.1 in
    ap (λ k. fault.TractRefused k inner) at_ ∙ ap (λ r. fault.TractRefused n' r) same
same_fault township bytes one other has has' at_ turn = absurd (omega arith)

-- two faults, neither of which comes before the other
record AreOne (one other : TractFault) : Type 0 where
  at_ : record_of one ≡ record_of other
  turn : turn_of one ≡ turn_of other

neither_is_after : (one other : TractFault) → IsFrom (record_of one) (turn_of one) other
    → IsFrom (record_of other) (turn_of other) one → AreOne one other
neither_is_after one other (inl less) (inl more) = absurd (omega arith)
neither_is_after one other (inl less) (inr (at_, turn)) = absurd (omega arith)
neither_is_after one other (inr (at_, turn)) (inl more) = absurd (omega arith)
neither_is_after one other (inr (at_, turn)) (inr (at', turn')) = record { at_ = at_; turn = omega arith }

-- only one fault of a list is the first
one_first : (township : Designation) (bytes : List ℕ) (one other : TractFault)
    → IsFirstTractFault STANDARD_LOTS township bytes one
    → IsFirstTractFault STANDARD_LOTS township bytes other → one ≡ other
one_first township bytes one other is is' =
    let same = neither_is_after one other (is.first other is'.is) (is'.first one is.is) in
    same_fault township bytes one other is.is is'.is same.at_ same.turn

-- a refused list has only one verdict
one_list_refusal : (plat : SurveyPlat) (bytes answer answer' : List ℕ) (verdict verdict' : Verdict)
    → IsListRefused plat bytes answer verdict → IsListRefused plat bytes answer' verdict'
    → (answer ≡ answer') × (verdict ≡ verdict')
one_list_refusal plat bytes answer answer' verdict verdict' is is' =
    let fault : is.tract_fault ≡ is'.tract_fault =
    one_first plat.township bytes is.tract_fault is'.tract_fault is.first is'.first in
    let both : Some verdict ≡ Some verdict' = sym is.verdict_is ∙ ap verdict_of fault ∙ is'.verdict_is in
    let same : verdict ≡ verdict' = cc both in
    (is.lines_are ∙ ap refusal_lines same ∙ sym is'.lines_are, same)

not_accepted : (plat : SurveyPlat) (bytes answer answer' : List ℕ) (verdict : Verdict)
    → IsAccountOf plat bytes answer → IsListRefused plat bytes answer' verdict → ⊥
not_accepted plat bytes answer answer' verdict is refused =
    not_faulty plat.township bytes refused.tract_fault is.list refused.first.is

one_list_answer : (plat : SurveyPlat) (bytes answer answer' : List ℕ) (verdict verdict' : Verdict)
    → AnswersList plat bytes answer verdict → AnswersList plat bytes answer' verdict'
    → (answer ≡ answer') × (verdict ≡ verdict')
one_list_answer plat bytes answer answer' Accepted Accepted is is' =
    (one_account plat (tract_records bytes) answer answer' is.account is'.account, refl)
one_list_answer plat bytes answer answer' Accepted (Refused r) is is' =
    absurd (not_accepted plat bytes answer answer' (Refused r) is is')
one_list_answer plat bytes answer answer' Accepted (TractRefused n r) is is' =
    absurd (not_accepted plat bytes answer answer' (TractRefused n r) is is')
one_list_answer plat bytes answer answer' (Refused r) Accepted is is' =
    absurd (not_accepted plat bytes answer' answer (Refused r) is' is)
one_list_answer plat bytes answer answer' (TractRefused n r) Accepted is is' =
    absurd (not_accepted plat bytes answer' answer (TractRefused n r) is' is)
one_list_answer plat bytes answer answer' (Refused r) (Refused r') is is' =
    one_list_refusal plat bytes answer answer' (Refused r) (Refused r') is is'
one_list_answer plat bytes answer answer' (Refused r) (TractRefused n' r') is is' =
    one_list_refusal plat bytes answer answer' (Refused r) (TractRefused n' r') is is'
one_list_answer plat bytes answer answer' (TractRefused n r) (Refused r') is is' =
    one_list_refusal plat bytes answer answer' (TractRefused n r) (Refused r') is is'
one_list_answer plat bytes answer answer' (TractRefused n r) (TractRefused n' r') is is' =
    one_list_refusal plat bytes answer answer' (TractRefused n r) (TractRefused n' r') is is'

-- notes that are refused make no plat
not_both : (notes tracts answer answer' : List ℕ) (verdict verdict' : Verdict)
    → IsPlatRefused notes answer verdict → IsAnswerOnPlat notes tracts answer' verdict' → ⊥
not_both notes tracts answer answer' Accepted verdict' none is = none
not_both notes tracts answer answer' (Refused r) verdict' (none, lines) is =
    not_platted notes r is.plat none is.platted
not_both notes tracts answer answer' (TractRefused n r) verdict' none is = none

one_notes_refusal : (notes answer answer' : List ℕ) (verdict verdict' : Verdict)
    → IsPlatRefused notes answer verdict → IsPlatRefused notes answer' verdict'
    → (answer ≡ answer') × (verdict ≡ verdict')
one_notes_refusal notes answer answer' (Refused r) (Refused r') (none, is) (none', is') =
    let same : r ≡ r' = one_plat_refusal notes r r' none none' in
    (is ∙ rw same (sym is'), ap (λ x. Refused x) same)
one_notes_refusal notes answer answer' Accepted verdict' is is' = absurd is
one_notes_refusal notes answer answer' (TractRefused n r) verdict' is is' = absurd is
one_notes_refusal notes answer answer' (Refused r) Accepted is is' = absurd is'
one_notes_refusal notes answer answer' (Refused r) (TractRefused n' r') is is' = absurd is'

pub one_report_answer : OneReportAnswer
one_report_answer notes tracts answer answer' verdict verdict' (inl is) (inl is') =
    one_notes_refusal notes answer answer' verdict verdict' is is'
one_report_answer notes tracts answer answer' verdict verdict' (inl is) (inr is') =
    absurd (not_both notes tracts answer answer' verdict verdict' is is')
one_report_answer notes tracts answer answer' verdict verdict' (inr is) (inl is') =
    absurd (not_both notes tracts answer' answer verdict' verdict is' is)
one_report_answer notes tracts answer answer' verdict verdict' (inr is) (inr is') =
    let same : is.plat ≡ is'.plat = one_plat notes is.plat is'.plat is.platted is'.platted in
    one_list_answer is'.plat tracts answer answer' verdict verdict'
    (subst (λ plat. AnswersList plat tracts answer verdict) same is.answers) is'.answers
