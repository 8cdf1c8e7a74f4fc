mod KeyPlaces
mod Numbers
mod Due
mod Refusing
mod Times
