pub mod LoadsLaws
