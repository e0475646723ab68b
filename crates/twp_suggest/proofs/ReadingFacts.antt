-- Lists of readings, over plain values.
use Rattle.std.proofs.Common.{◌≡◌, ◌<◌, ℕ, List, [], ◌∷◌, ◌++◌, length, All, refl, sym}
use Rattle.std.proofs.Common.{subst, arith}
use Rattle.std.proofs.Common.{length-append, IsTrue, false, ◌↔◌}
use Rattle.std.proofs.lemmas.Bool.{false≢true}
use Rattle.std.proofs.lemmas.List.Elements.{All-nil, All-push, All-cons}
use Rattle.std.proofs.lemmas.List.Quantifiers.{all_pairs_push}
use Rattle.twp_grid.specs.Lands.{Lotting}
use Rattle.twp_suggest.specs.Descriptions.{IsClear}
use Rattle.twp_suggest.specs.declared.meaning.manner.Manner.TheVariants.{Changed}
use Rattle.twp_suggest.specs.declared.reading.Reading.{Reading}
use Rattle.twp_suggest.specs.Closed.{AreClosed, IsClosed}
use Rattle.twp_suggest.specs.Readings.{AreSomeReadings, AreReadings, IsReading, AreOther}
use Rattle.twp_suggest.specs.Readings.{READINGS_MOST}

-- none
pub no_readings : (lots : Lotting) (text : List ℕ) → AreSomeReadings lots text []
no_readings lots text = record {
  each = All-nil (IsReading lots text);
  apart = λ i j d before within. absurd (omega arith);
  few = omega arith;
}

-- none, of a text that isn't clear
pub none_of : (lots : Lotting) (text : List ℕ) → (IsTrue false ↔ IsClear text) → AreReadings lots text []
none_of lots text clear = record {
  some = no_readings lots text;
  closed = λ _. All-nil (IsClosed lots text []);
  itself = λ is. absurd (false≢true (clear.1 is));
}

-- some, of a text that isn't clear
pub some_of : (lots : Lotting) (text : List ℕ) (readings : List Reading) → (IsTrue false ↔ IsClear text)
    → AreSomeReadings lots text readings → AreClosed lots text readings → AreReadings lots text readings
some_of lots text readings clear some closed =
    record { some = some; closed = λ _. closed; itself = λ is. absurd (false≢true (clear.1 is)) }

-- one more
pub one_more : (lots : Lotting) (text : List ℕ) (before after : List Reading) (new : Reading)
    → AreSomeReadings lots text before → IsReading lots text new
    → All (λ reading. AreOther lots reading new) before
    → length before < READINGS_MOST → after ≡ before ++ new ∷ [] → AreSomeReadings lots text after
one_more lots text before after new some is other room all =
    subst (AreSomeReadings lots text) (sym all) (record {
      each = All-push (IsReading lots text) before new some.each is;
      apart = all_pairs_push (AreOther lots) before new some.apart other;
      few = rw (length-append before (new ∷ [])) (omega arith);
    })

-- the text itself
pub only_itself : (lots : Lotting) (text : List ℕ) (readings : List Reading) (reading : Reading)
    → IsClear text
    → reading.changes.items ≡ [] → reading.text.items ≡ text → reading.manner ≡ Changed
    → readings ≡ reading ∷ [] → AreReadings lots text readings
only_itself lots text readings reading clear unchanged same manner one =
    let is : IsReading lots text reading = record {
      made = rw unchanged (record { allowed = omega arith; numbers = refl; apart = refl; moved = refl });
      copies = rw unchanged refl;
      repeated = rw unchanged tt;
      described = rw (unchanged, manner) same;
      accepted = rw same clear.accepted;
      lies = λ doubtful. absurd (doubtful unchanged clear);
    } in
    subst (AreReadings lots text) (sym one) (record {
      some = record {
        each = All-cons (IsReading lots text) reading [] is (All-nil (IsReading lots text));
        apart = λ i j d before within. absurd (omega arith);
        few = omega arith;
      };
      closed = λ no. absurd (no clear);
      itself = λ _. record { reading = reading; one = refl; unchanged = unchanged; same = same };
    })
