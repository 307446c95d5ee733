-- The words of a page, in each language (own).
use Rattle.std.specs.Prelude.{ℕ, List, [], ◌∷◌, codes}
use Rattle.chart.specs.declared.english.TheConstants as english_texts
use Rattle.chart.specs.declared.german.TheConstants as german_texts
use Rattle.chart.specs.declared.word.Language.{Language}
use Rattle.chart.specs.declared.word.Language.TheVariants as languages
use Rattle.chart.specs.declared.word.Word.{Word}
use Rattle.chart.specs.declared.word.Word.TheVariants as words
use Rattle.chart.specs.declared.word.Wording.{Wording}

-- the two octets of letters in UTF-8
abbrev pub oe : List ℕ
oe = 195 ∷ 182 ∷ []

abbrev pub ue : List ℕ
ue = 195 ∷ 188 ∷ []

abbrev pub big_ue : List ℕ
big_ue = 195 ∷ 156 ∷ []

abbrev pub english : Word → List ℕ
english words.Code = codes "en"
english words.Title = codes "Warnings by cell"
english words.Run = codes "A run of "
english words.Slots = codes " slots of 1.883 s, "
english words.Slot = codes " slot of 1.883 s, "
english words.Begins = codes " Slot 0 begins at "
english words.BeginsEnd = codes "; times are of the day, in UTC."
english words.Part = codes " Drawn from slot "
english words.PartTo = codes " to slot "
english words.Introduction = english_texts.INTRODUCTION.now
english words.Group = codes "Group "
english words.Messages = codes "messages: "
english words.Refused = codes ", refused: "
english words.Fullest = codes ", fullest: "
english words.ShareAt = codes " % at "
english words.Additional = codes ", in an additional language"
english words.Broadcasts = codes " broadcasts"
english words.Broadcast = codes " broadcast"
english words.Unseen = codes "not shown:"
english words.RefusedBecause = codes "refused: "
english words.From = codes ": slots "
english words.To = codes " to "
english words.Every = codes ", every "
english words.EverySlot = codes ", every slot"
english words.Whole = codes ", broadcasts: "
english words.Shown = codes ", first shown after "
english words.NotShown = codes ", not shown"
english words.RefusedAt = codes ": refused at slot "
english words.Load = codes "Reserved load"
english words.High = codes "high"
english words.Normal = codes "normal"
english words.Background = codes "background"
english words.Cell = codes "Cell "
english words.Cells = codes "Cells "
english words.CellsEnd = codes " cells"
english words.And = codes " and "
english words.More = codes " more"
english words.Overview = codes "Cells"
english words.Axis = codes "Slot, time"

abbrev pub german : Word → List ℕ
german words.Code = codes "de"
german words.Title = codes "Warnungen nach Zelle"
german words.Run = codes "Ein Lauf von "
german words.Slots = codes " Slots (Zeitschlitzen) zu 1,883 s, "
german words.Slot = codes " Slot (Zeitschlitz) zu 1,883 s, "
german words.Begins = codes " Slot 0 beginnt um "
german words.BeginsEnd = codes "; Zeiten sind Tageszeiten in UTC."
german words.Part = codes " Gezeichnet von Slot "
german words.PartTo = codes " bis Slot "
german words.Introduction = german_texts.INTRODUCTION.now
german words.Group = codes "Gruppe "
german words.Messages = codes "Nachrichten: "
german words.Refused = codes ", abgelehnt: "
german words.Fullest = codes ", Spitze: "
german words.ShareAt = codes " % um "
german words.Additional = codes ", in weiterer Sprache"
german words.Broadcasts = codes " Aussendungen"
german words.Broadcast = codes " Aussendung"
german words.Unseen = codes "nicht gezeigt:"
german words.RefusedBecause = codes "abgelehnt: "
german words.From = codes ": Slots "
german words.To = codes " bis "
german words.Every = codes ", alle "
german words.EverySlot = codes ", in jedem Slot"
german words.Whole = codes ", Aussendungen: "
german words.Shown = codes ", zuerst gezeigt nach "
german words.NotShown = codes ", nicht gezeigt"
german words.RefusedAt = codes ": abgelehnt bei Slot "
german words.Load = codes "Reservierte Last"
german words.High = codes "hoch"
german words.Normal = codes "normal"
german words.Background = codes "Hintergrund"
german words.Cell = codes "Zelle "
german words.Cells = codes "Zellen "
german words.CellsEnd = codes " Zellen"
german words.And = codes " + "
german words.More = codes " weitere"
german words.Overview = codes "Zellen"
german words.Axis = codes "Slot, Zeit"

-- a word in a language
abbrev pub word_in : Language → Word → List ℕ
word_in languages.English word = english word
word_in languages.German word = german word

-- a word of a page
abbrev pub word_by : Wording → Word → List ℕ
word_by w word = word_in w.language word
